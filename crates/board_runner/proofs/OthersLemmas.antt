-- The others' turns, in rising number.
use Rattle.std.proofs.Common.{◌≡◌, ◌≢◌, ℕ, zero, suc, ◌+◌, ◌<◌, Bool, true, false, not, cond, List, [], ◌∷◌, ◌++◌, length, map, take, filter, Option, Some, None, option_map, refl, sym, ap, ◌∙◌, subst, arith, append-nil, eq-eqb, ne_eqb}
use Rattle.std.specs.Prelude.{◌==◌, slice_get, IfSome}
use Rattle.std.proofs.lemmas.List.{length-map}
use Rattle.std.proofs.lemmas.List.Elements.{filter-append}
use Rattle.std.proofs.lemmas.Option.{slice_get-map}
use Rattle.board_model.specs.declared.scenario.Scenario.{Scenario}
use Rattle.board_model.specs.LinkedBoard.{Differ}
use Rattle.board_model.specs.Scenario.{rising}
use Rattle.board_model.specs.SerialRun.{Running, turned_once, all_turned, others}
use Rattle.board_model.proofs.LawfulBoards.{lawful_is_linked}
use Rattle.board_model.proofs.MessageAlls.{all-at}
use Rattle.board_model.proofs.PlaceBoards.{rising_differ}
use Rattle.board_runner.specs.declared.station.Station.{Station}
use Rattle.board_runner.specs.Runs.{IsSomeRun, At, Leads, TurnsOnce, OthersTurn, AllCarried, KeepCounts}
use Rattle.board_runner.specs.Stations.{IsRun}
use Rattle.board_runner.proofs.StationCounts.{at_place}
use Rattle.board_runner.proofs.StationLemmas.{item_at, numbers_are, domains_rise}

-- ---- lists

pub all_turned-append : (s : Scenario) (r : Running) (xs ys : List ℕ) → all_turned s r (xs ++ ys) ≡ all_turned s (all_turned s r xs) ys
all_turned-append s r [] ys = refl
all_turned-append s r (x ∷ xs) ys = all_turned-append s (turned_once s r x) xs ys

-- one item more
pub take-more : {A : Type 0} (xs : List A) (i : ℕ) (x : A) → slice_get xs i ≡ Some x → take (suc i) xs ≡ take i xs ++ x ∷ []
take-more [] i x e = absurd cc
take-more {A} (y ∷ xs) zero x e = let is : y ≡ x = cc in ap (λ (z : A). z ∷ []) is
take-more {A} (y ∷ xs) (suc i) x e = ap (λ (ys : List A). y ∷ ys) (take-more xs i x e)

pub take-all : {A : Type 0} (xs : List A) (i : ℕ) → i ≡ length xs → take i xs ≡ xs
take-all [] i e = ap (λ (n : ℕ). take n []) e
take-all {A} (x ∷ xs) zero e = absurd (omega (arith, e))
take-all {A} (x ∷ xs) (suc i) e = ap (λ (ys : List A). x ∷ ys) (take-all xs i (omega (arith, e)))

-- what stands at two places of numbers that differ differs
differ_at : (ns : List ℕ) (i j m n : ℕ) → Differ ns → slice_get ns i ≡ Some m → slice_get ns j ≡ Some n → i ≢ j → m ≡ n → ⊥
differ_at [] i j m n differ at_i at_j apart same = absurd cc
differ_at (k ∷ ns) zero zero m n differ at_i at_j apart same = apart refl
differ_at (k ∷ ns) zero (suc j) m n differ at_i at_j apart same = let is : k ≡ m = cc in all-at (λ x. x ≡ k → ⊥) ns j n differ.0 at_j (sym same ∙ sym is)
differ_at (k ∷ ns) (suc i) zero m n differ at_i at_j apart same = let is : k ≡ n = cc in all-at (λ x. x ≡ k → ⊥) ns i m differ.0 at_i (same ∙ sym is)
differ_at (k ∷ ns) (suc i) (suc j) m n differ at_i at_j apart same = differ_at ns i j m n differ.1 at_i at_j (λ e. apart (ap suc e)) same

-- ---- turns

-- the numbers of the board's domains, and those of the others that stand before a place
abbrev pub board_numbers : Scenario → List ℕ
board_numbers s = map (λ l. l.domain) (rising s)

abbrev pub others_before : ℕ → Scenario → ℕ → List ℕ
others_before i s d = filter (λ n. not (n == d)) (take i (board_numbers s))

-- those made their turn
abbrev pub TurnedBefore : ℕ → ℕ → List Station → List Station → Type 0
TurnedBefore i at old new = At at (λ st. Leads (λ s r. all_turned s r (others_before i s st.domain.state.number)) old new) old

pub at_any : (P : Station → Type 0) (sts : List Station) (at : ℕ) → ((st : Station) → slice_get sts at ≡ Some st → P st) → At at P sts
at_any P sts at h = go (slice_get sts at) refl
  where
    go : (o : Option Station) → slice_get sts at ≡ o → IfSome o P
    go None e = tt
    go (Some st) e = h st e

none_turned : (at : ℕ) (sts : List Station) → TurnedBefore 0 at sts sts
none_turned at sts = at_any (λ st. Leads (λ s r. all_turned s r (others_before 0 s st.domain.state.number)) sts sts) sts at (λ st is s r lawful h. h)

-- the number of the domain at a place
pub number_at : (s : Scenario) (r : Running) (sts : List Station) (i : ℕ) (st : Station) → IsRun s r sts → slice_get sts i ≡ Some st → slice_get (board_numbers s) i ≡ Some st.domain.state.number
number_at s r sts i st h is = ap (λ (ns : List ℕ). slice_get ns i) (sym (numbers_are s r.stations sts h.each ∙ domains_rise s r.stations h.lines)) ∙ slice_get-map (λ (x : Station). x.domain.state.number) sts i ∙ ap (option_map (λ (x : Station). x.domain.state.number)) is

filter_one : (d n : ℕ) (b : Bool) → (n == d) ≡ b → filter (λ m. not (m == d)) (n ∷ []) ≡ cond b [] (n ∷ [])
filter_one d n true e = ap (λ (b : Bool). cond (not b) (n ∷ []) []) e
filter_one d n false e = ap (λ (b : Bool). cond (not b) (n ∷ []) []) e

others_more : (i : ℕ) (s : Scenario) (d n : ℕ) (b : Bool) → slice_get (board_numbers s) i ≡ Some n → (n == d) ≡ b → others_before (suc i) s d ≡ others_before i s d ++ cond b [] (n ∷ [])
others_more i s d n b is same =
    ap (filter (λ m. not (m == d))) (take-more (board_numbers s) i n is) ∙ filter-append (λ m. not (m == d)) (take i (board_numbers s)) (n ∷ []) ∙ ap (λ (xs : List ℕ). others_before i s d ++ xs) (filter_one d n b same)

-- one more makes its turn
one_turned : (i at : ℕ) (old mid new : List Station) (st : Station) → i ≢ at → slice_get mid i ≡ Some st → TurnedBefore i at old mid → TurnsOnce i mid new → TurnedBefore (suc i) at old new
one_turned i at old mid new st apart is before turns =
    at_any (λ x. Leads (λ s r. all_turned s r (others_before (suc i) s x.domain.state.number)) old new) old at (λ x own s r lawful h.
    let d = x.domain.state.number in
    let n = st.domain.state.number in
    let q = all_turned s r (others_before i s d) in
    let k = at_place (λ y. Leads (λ s r. all_turned s r (others_before i s y.domain.state.number)) old mid) old at x own before s r lawful h in
    let here = number_at s q mid i st k is in
    let there = number_at s r old at x h own in
    let differs = differ_at (board_numbers s) i at n d (rising_differ s (lawful_is_linked s lawful)) here there apart in
    let run = at_place (λ y. Leads (λ s r. turned_once s r y.domain.state.number) mid new) mid i st is turns s q lawful k in
    subst (λ (ns : List ℕ). IsRun s (all_turned s r ns) new) (sym (others_more i s d n false here (ne_eqb n d differs)))
    (subst (λ (z : Running). IsRun s z new) (sym (all_turned-append s r (others_before i s d) (n ∷ []))) run))

-- the domain itself makes none
own_skipped : (at : ℕ) (old new : List Station) → TurnedBefore at at old new → TurnedBefore (suc at) at old new
own_skipped at old new before =
    at_any (λ x. Leads (λ s r. all_turned s r (others_before (suc at) s x.domain.state.number)) old new) old at (λ x own s r lawful h.
    let d = x.domain.state.number in
    let run = at_place (λ y. Leads (λ s r. all_turned s r (others_before at s y.domain.state.number)) old new) old at x own before s r lawful h in
    subst (λ (ns : List ℕ). IsRun s (all_turned s r ns) new) (sym (others_more at s d d true (number_at s r old at x h own) (eq-eqb d d refl) ∙ append-nil (others_before at s d))) run)

-- all others made their turn
pub all_others : (n at : ℕ) (old new : List Station) → n ≡ length old → TurnedBefore n at old new → OthersTurn at old new
all_others n at old new all before =
    at_any (λ x. Leads (λ s r. all_turned s r (others s x.domain.state.number)) old new) old at (λ x own s r lawful h.
    let many : n ≡ length (board_numbers s) =
    all ∙ sym (length-map old (λ (y : Station). y.domain.state.number)) ∙ ap length (numbers_are s r.stations old h.each ∙ domains_rise s r.stations h.lines) in
    subst (λ (ns : List ℕ). IsRun s (all_turned s r (filter (λ m. not (m == x.domain.state.number)) ns)) new) (take-all (board_numbers s) n many)
    (at_place (λ y. Leads (λ s r. all_turned s r (others_before n s y.domain.state.number)) old new) old at x own before s r lawful h))

-- the stations still stand for a run
pub some_turned : (i : ℕ) (old new : List Station) (st : Station) → slice_get old i ≡ Some st → IsSomeRun old → TurnsOnce i old new → IsSomeRun new
some_turned i old new st is some turns = record {
  scenario = some.scenario;
  lawful = some.lawful;
  run = turned_once some.scenario some.run st.domain.state.number;
  stands = at_place (λ y. Leads (λ s r. turned_once s r y.domain.state.number) old new) old i st is turns some.scenario some.run some.lawful some.stands;
}

-- ---- along the stations

-- all others that stand before a place made their turn
pub record SoFar (i at : ℕ) (old new : List Station) : Type 0 where
  pub before : TurnedBefore i at old new
  pub run : IsSomeRun new
  pub carried : AllCarried new
  pub counts : KeepCounts old new

pub none_so_far : (at : ℕ) (sts : List Station) → IsSomeRun sts → AllCarried sts → SoFar 0 at sts sts
none_so_far at sts some carried = record { before = none_turned at sts; run = some; carried = carried; counts = refl }

pub one_further : (i at : ℕ) (old mid new there : List Station) → i < length mid → i ≢ at → SoFar i at old mid → TurnsOnce i mid new → AllCarried new → KeepCounts mid new → there ≡ new → SoFar (i + 1) at old there
one_further i at old mid new there lt apart h turns carried same is =
    let st = item_at mid i lt in
    let next : suc i ≡ i + 1 = omega arith in
    let go : SoFar (i + 1) at old new = record {
      before = subst (λ (n : ℕ). TurnedBefore n at old new) next (one_turned i at old mid new st.0 apart st.1 h.before turns);
      run = some_turned i mid new st.0 st.1 h.run turns;
      carried = carried;
      counts = same ∙ h.counts;
    } in
    subst (SoFar (i + 1) at old) (sym is) go

pub own_further : (i at : ℕ) (old new there : List Station) → i ≡ at → SoFar i at old new → there ≡ new → SoFar (i + 1) at old there
own_further i at old new there own h is =
    let next : suc at ≡ i + 1 = omega (arith, own) in
    let go : SoFar (i + 1) at old new = record {
      before = subst (λ (n : ℕ). TurnedBefore n at old new) next (own_skipped at old new (subst (λ (n : ℕ). TurnedBefore n at old new) own h.before));
      run = h.run;
      carried = h.carried;
      counts = h.counts;
    } in
    subst (SoFar (i + 1) at old) (sym is) go
