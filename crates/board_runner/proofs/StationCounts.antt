-- What stations count, place by place.
use Rattle.std.proofs.Common.{◌≡◌, ℕ, zero, suc, ◌+◌, ◌<◌, ◌^◌, Bool, true, false, List, [], ◌∷◌, map, set, Option, Some, option_map, refl, sym, ap, ap₂, ◌∙◌, subst, arith}
use Rattle.std.specs.Prelude.{slice_get, IfSome}
use Rattle.std.specs.List.{AllByRecursion}
use Rattle.std.proofs.lemmas.List.{map-set}
use Rattle.std.proofs.lemmas.Option.{slice_get-map, slice_get_within}
use Rattle.board_model.specs.declared.scenario.CallLine.{CallLine}
use Rattle.board_model.specs.declared.scenario.Scenario.{Scenario}
use Rattle.board_model.specs.Lists.{changed_at}
use Rattle.board_model.specs.Scenario.{script}
use Rattle.board_model.specs.SerialRun.{Running}
use Rattle.board_model.specs.LinkedBoard.{IsLinkedBoard}
use Rattle.board_model.proofs.BoardsScripts.{script-few}
use Rattle.board_model.proofs.LawfulBoards.{lawful_is_linked}
use Rattle.board_model.proofs.MessageAlls.{all-at}
use Rattle.board_model.proofs.WholeFinds.{some_tells}
use Rattle.mc_journal.specs.Entry.{plain_answer}
use Rattle.board_runner.specs.declared.station.Station.{Station}
use Rattle.board_runner.specs.Lines.{dropped_by, NotesAnswer, Tries}
use Rattle.board_runner.specs.Runs.{At, KeepCounts, DropsFit, CountsFit, MayCount, OneLineMore, CountsCall, IsNext, IsSomeNext}
use Rattle.board_runner.specs.StationsMet.{counted}
use Rattle.board_runner.specs.Stations.{IsRun}
use Rattle.board_runner.proofs.StationLemmas.{numbers_in, numbers_are, domains_rise, set-same}

-- ---- what stands at a place

pub at_place : (P : Station → Type 0) (sts : List Station) (at : ℕ) (st : Station) → slice_get sts at ≡ Some st → At at P sts → P st
at_place P sts at st is h = subst (λ (o : Option Station). IfSome o P) is h

pub place_at : (P : Station → Type 0) (sts : List Station) (at : ℕ) (st : Station) → slice_get sts at ≡ Some st → P st → At at P sts
place_at P sts at st is h = subst (λ (o : Option Station). IfSome o P) (sym is) h

-- of a part of stations that is the same at all places
pub part_at : {X : Type 0} (f : Station → X) (old new : List Station) (at : ℕ) (st : Station) → map f new ≡ map f old → slice_get new at ≡ Some st → (x : Station) × (slice_get old at ≡ Some x) × (f x ≡ f st)
part_at f old new at st same is =
    some_tells f (slice_get old at) (f st) (sym (slice_get-map f old at) ∙ ap (λ xs. slice_get xs at) (sym same) ∙ slice_get-map f new at ∙ ap (option_map f) is)

-- ---- counts

pub drops_at : (sts : List Station) (at : ℕ) (st : Station) → slice_get sts at ≡ Some st → CountsFit sts → DropsFit (counted st)
drops_at sts at st is fits = all-at DropsFit (map counted sts) at (counted st) fits (slice_get-map counted sts at ∙ ap (option_map counted) is)

-- a list changed at a place
pub changed_set : {A : Type 0} (f : A → A) (xs : List A) (i : ℕ) (x : A) → slice_get xs i ≡ Some x → changed_at f i xs ≡ set xs i (f x)
changed_set f [] i x e = refl
changed_set {A} f (y ∷ xs) zero x e = let is : y ≡ x = cc in ap (λ (z : A). f z ∷ xs) is
changed_set {A} f (y ∷ xs) (suc i) x e = ap (λ (ys : List A). y ∷ ys) (changed_set f xs i x e)

pub all_set : {A : Type 0} (P : A → Type 0) (xs : List A) (i : ℕ) (x : A) → AllByRecursion P xs → P x → AllByRecursion P (set xs i x)
all_set P [] i x all one = tt
all_set P (y ∷ xs) zero x all one = (one, all.1)
all_set P (y ∷ xs) (suc i) x all one = (all.0, all_set P xs i x all.1 one)

lines_of_counts : (sts : List Station) → map (λ x. x.number) sts ≡ map (λ (c : ℕ × ℕ). c.0) (map counted sts)
lines_of_counts [] = refl
lines_of_counts (x ∷ sts) = ap (λ (ns : List ℕ). x.number ∷ ns) (lines_of_counts sts)

lines_kept : (old new : List Station) → KeepCounts old new → map (λ x. x.number) new ≡ map (λ x. x.number) old
lines_kept old new same = lines_of_counts new ∙ ap (map (λ (c : ℕ × ℕ). c.0)) same ∙ sym (lines_of_counts old)

-- ---- after a call

module _ (old carried : List Station) (at : ℕ) (st new : Station) (same : KeepCounts old carried) (is : slice_get carried at ≡ Some st) where
  pub counts_stay : counted new ≡ counted st → KeepCounts old (set carried at new)
  counts_stay e = map-set counted carried at new ∙ ap (set (map counted carried) at) e ∙ set-same (map counted carried) at (counted st) (slice_get-map counted carried at ∙ ap (option_map counted) is) ∙ same

  pub one_more : new.number ≡ st.number + 1 → (n : ℕ) → n < 2 ^ 32 → new.dropped ≡ st.dropped + n → OneLineMore at old (set carried at new)
  one_more number n small dropped = record {
    lines =
        map-set (λ (x : Station). x.number) carried at new ∙ ap (set (map (λ (x : Station). x.number) carried) at) number
        ∙ sym (changed_set (λ (k : ℕ). k + 1) (map (λ (x : Station). x.number) carried) at st.number (slice_get-map (λ (x : Station). x.number) carried at ∙ ap (option_map (λ (x : Station). x.number)) is))
        ∙ ap (changed_at (λ (k : ℕ). k + 1) at) (lines_kept old carried same);
    fits = λ fits.
        let before : DropsFit (counted st) = drops_at carried at st is (subst (AllByRecursion DropsFit) (sym same) fits) in
        let after : DropsFit (counted new) = omega (arith, before, number, small, dropped) in
        subst (AllByRecursion DropsFit) (sym (map-set counted carried at new)) (all_set DropsFit (map counted carried) at (counted new) (subst (AllByRecursion DropsFit) (sym same) fits) after);
  }

  pub counts_call : (line : CallLine) (may_try is_again is_still : Bool) → Tries line may_try st new is_again is_still → CountsCall is_again at old (set carried at new)
  counts_call line may_try is_again is_still h = go is_again h.notes
    where
      go : (b : Bool) → NotesAnswer b line h.made h.called_to new → CountsCall b at old (set carried at new)
      go true notes = counts_stay (ap₂ (λ (k n : ℕ). (k, n)) (notes.number ∙ h.makes.number) (notes.dropped ∙ h.makes.dropped))
      go false notes = one_more (notes.number ∙ ap (λ (k : ℕ). k + 1) h.makes.number) (dropped_by line.call (plain_answer h.made.answer)) h.makes.drops_fit (notes.dropped ∙ ap (λ (k : ℕ). k + dropped_by line.call (plain_answer h.made.answer)) h.makes.dropped)

-- a call, and then counts that stay
pub counts_call_after : (b : Bool) (at : ℕ) (old mid new : List Station) → CountsCall b at old mid → KeepCounts mid new → CountsCall b at old new
counts_call_after true at old mid new counts same = same ∙ counts
counts_call_after false at old mid new more same = record {
  lines = lines_kept mid new same ∙ more.lines;
  fits = λ fits. subst (AllByRecursion DropsFit) (sym same) (more.fits fits);
}

-- counts that stay, and then one line more
pub one_line_after : (at : ℕ) (old mid new : List Station) → KeepCounts old mid → OneLineMore at mid new → OneLineMore at old new
one_line_after at old mid new same more = record {
  lines = more.lines ∙ ap (changed_at (λ (k : ℕ). k + 1) at) (lines_kept old mid same);
  fits = λ fits. more.fits (subst (AllByRecursion DropsFit) (sym same) fits);
}

-- ---- the line that comes next

-- the domains stand at their places
pub numbers_stay : (s : Scenario) (r q : Running) (old new : List Station) → IsRun s r old → IsRun s q new → numbers_in new ≡ numbers_in old
numbers_stay s r q old new h k = numbers_are s q.stations new k.each ∙ domains_rise s q.stations k.lines ∙ sym (domains_rise s r.stations h.lines) ∙ sym (numbers_are s r.stations old h.each)

pub next_at : (s : Scenario) (r q : Running) (line : CallLine) (old new : List Station) (at : ℕ) (st : Station) → IsRun s r old → IsRun s q new → KeepCounts old new → slice_get new at ≡ Some st → At at (IsNext s line) old → IsNext s line st
next_at s r q line old new at st h k same is next =
    let was = part_at counted old new at st same is in
    let number = part_at (λ x. x.domain.state.number) old new at st (numbers_stay s r q old new h k) is in
    let one : was.0 ≡ number.0 = some_is (sym was.1 ∙ number.1) in
    let comes = at_place (IsNext s line) old at was.0 was.1 next in
    record {
      number = sym number.2 ∙ sym (ap (λ (x : Station). x.domain.state.number) one) ∙ comes.number;
      comes = ap (slice_get (script s line.domain)) (sym (ap (λ (c : ℕ × ℕ). c.0) was.2)) ∙ comes.comes;
    }
  where
    some_is : {x y : Station} → ◌≡◌ {A = Option Station} (Some x) (Some y) → x ≡ y
    some_is e = cc

-- so few lines are in a file that one line more fits
pub may_count : (s : Scenario) → IsLinkedBoard s → (line : CallLine) (st : Station) → IsNext s line st → MayCount st
may_count s board line st next = omega (arith, slice_get_within (script s line.domain) st.number line next.comes, script-few s board line.domain)

pub count_at : (line : CallLine) (sts : List Station) (at : ℕ) (st : Station) → IsSomeNext line at sts → slice_get sts at ≡ Some st → MayCount st
count_at line sts at st some is = may_count some.scenario (lawful_is_linked some.scenario some.lawful) line st (at_place (IsNext some.scenario line) sts at st is some.next)
