-- The lines of a turn's visits stand in the order of a turn.
use Rattle.std.proofs.Common.{◌≡◌, ℕ, suc, ◌-◌, ◌<◌, min, Bool, true, false, ◌&&◌, ◌||◌, cond, List, [], ◌∷◌, ◌++◌, length, map, Option, Some, None, refl, sym, ap, ap₂, subst, ◌∙◌, arith, append_assoc, eqb-true, eq-eqb, ne_eqb, length-append}
use Rattle.std.specs.Prelude.{nat_lt, ◌==◌}
use Rattle.std.specs.List.{AllByRecursion, flat_map, list_all}
use Rattle.std.proofs.lemmas.Bool.{and_from}
use Rattle.std.proofs.lemmas.Bool.Decides.{nat_tests}
use Rattle.std.proofs.lemmas.List.{length-map}
use Rattle.mc_base.specs.Limits.{turn_limit}
use Rattle.board_model.specs.Journal.{Taken, Visit, Line, back_line, put_line, see_line, looked, taken_line, visit_lines, is_idle}
use Rattle.board_model.proofs.BoardsRising.{AreRising}
use Rattle.board_model.proofs.MessageAlls.{all-append, all-weaken}
use Rattle.report_text.specs.declared.outline.Outline.{Outline}
use Rattle.report_text.specs.declared.outline.Outline.TheVariants as outline
use Rattle.report_text.specs.Outlines.{outline_of}
use Rattle.report_text.specs.TextLines.{moved}
use Rattle.report_text.specs.TurnOrder.{is_put, is_peer, is_possible, peer_in, part_in, comes_after, may_follow, is_next, takes_due, shown_at, unless_due, order_place}
use Rattle.report_laws.proofs.RunForms.{TakesFirst}

-- each line may stand behind the one before, where so many takes are due behind that, and none is due behind the last
abbrev pub InTurn : ℕ → Option Outline → List Line → Type 0
InTurn due last [] = due ≡ 0
InTurn due last (l ∷ ls) = (is_next due last (outline_of l) ≡ true) × InTurn (takes_due due (outline_of l)) (Some (outline_of l)) ls

-- ---- such lines have no line out of order

one-more : (n due : ℕ) (last : Option Outline) (l : Outline) (ls : List Outline) → is_next due last l ≡ true → order_place n (takes_due due l) (Some l) ls ≡ None → order_place (suc n) due last (l ∷ ls) ≡ None
one-more n due last l ls next rest =
    let some : (suc n == 0) ≡ false = ne_eqb (suc n) 0 (λ z. omega (arith, z)) in
    let less : suc n - 1 ≡ n = omega arith in
    ap₂ (λ s t. cond s (unless_due due) (cond t (moved 1 (order_place (suc n - 1) (takes_due due l) (Some l) ls)) (Some (shown_at due (l ∷ ls))))) some next
    ∙ ap (λ m. moved 1 (order_place m (takes_due due l) (Some l) ls)) less
    ∙ ap (moved 1) rest

pub order-none : (ls : List Line) (due : ℕ) (last : Option Outline) (others : List Outline) → InTurn due last ls → order_place (length ls) due last (map outline_of ls ++ others) ≡ None
order-none [] due last [] h = ap (λ n. unless_due n) h
order-none [] due last (o ∷ os) h = ap (λ n. unless_due n) h
order-none (l ∷ ls) due last others h = one-more (length ls) due last (outline_of l) (map outline_of ls ++ others) h.0 (order-none ls (takes_due due (outline_of l)) (Some (outline_of l)) others h.1)

-- ---- which lines may follow

or-true : (b : Bool) → (b || true) ≡ true
or-true true = refl
or-true false = refl

-- the last line is of an earlier peer
abbrev IsBefore : ℕ → Option Outline → Type 0
IsBefore p None = Unit {0}
IsBefore p (Some k) = peer_in k < p

later-follows : (last : Option Outline) (l : Outline) → IsBefore (peer_in l) last → may_follow last l ≡ true
later-follows None l before = refl
later-follows (Some k) l before =
    let test : nat_lt (peer_in k) (peer_in l) ≡ true = grind (arith, nat_tests) in
    ap (λ b. b || (peer_in k == peer_in l && (nat_lt (part_in k) (part_in l) || (is_put k && is_put l)))) test

-- at the same peer, by the parts of a visit
part-follows : (k l : Outline) → peer_in k ≡ peer_in l → (nat_lt (part_in k) (part_in l) || (is_put k && is_put l)) ≡ true → comes_after k l ≡ true
part-follows k l same part = ap₂ (λ s t. nat_lt (peer_in k) (peer_in l) || (s && t)) (eq-eqb (peer_in k) (peer_in l) same) part ∙ or-true (nat_lt (peer_in k) (peer_in l))

-- ---- the parts of a visit, each before what stands behind it

module _ (p : ℕ) (rest : List Line) where
  takes-in : (ts : List Taken) (k : Outline) → peer_in k ≡ p → ((l : Outline) → peer_in l ≡ p → InTurn 0 (Some l) rest) → InTurn (length ts) (Some k) (map (taken_line p) ts ++ rest)
  takes-in [] k same behind = behind k same
  takes-in (t ∷ ts) k same behind =
      let some : nat_lt 0 (suc (length ts)) ≡ true = grind (arith, nat_tests) in
      let less : length ts ≡ suc (length ts) - 1 = omega arith in
      (ap₂ (λ a b. a && b) some (eq-eqb (peer_in k) p same), subst (λ n. InTurn n (Some (outline.Take p)) (map (taken_line p) ts ++ rest)) less (takes-in ts (outline.Take p) refl behind))

  see-in : (n : ℕ) (ts : List Taken) (last : Option Outline) → length ts ≡ min turn_limit n → may_follow last (outline.See p n) ≡ true → InTurn 0 last rest → ((l : Outline) → peer_in l ≡ p → InTurn 0 (Some l) rest) → InTurn 0 last (looked (see_line p) n ++ (map (taken_line p) ts ++ rest))
  see-in n ts last first follows here behind = go (n == 0) refl
    where
      none-taken : (us : List Taken) → length us ≡ 0 → InTurn 0 last (map (taken_line p) us ++ rest)
      none-taken [] none = here
      none-taken (u ∷ us) none = absurd (omega (arith, none))

      go : (b : Bool) → (n == 0) ≡ b → InTurn 0 last (cond b [] (see_line p n ∷ []) ++ (map (taken_line p) ts ++ rest))
      go true is = none-taken ts (omega (arith, first, eqb-true n 0 is))
      go false is = (follows, subst (λ m. InTurn m (Some (outline.See p n)) (map (taken_line p) ts ++ rest)) first (takes-in ts (outline.See p n) refl behind))

puts-in : (p : ℕ) (rest : List Line) (fs : List (List ℕ)) (last : Option Outline) → may_follow last (outline.Put p) ≡ true → InTurn 0 last rest → InTurn 0 (Some (outline.Put p)) rest → InTurn 0 last (map (put_line p) fs ++ rest)
puts-in p rest [] last follows here behind = here
puts-in p rest (f ∷ fs) last follows here behind = (follows, puts-in p rest fs (Some (outline.Put p)) (part-follows (outline.Put p) (outline.Put p) refl refl) behind behind)

back-in : (p : ℕ) (rest : List Line) (n : ℕ) (last : Option Outline) → may_follow last (outline.Back p n) ≡ true → InTurn 0 last rest → InTurn 0 (Some (outline.Back p n)) rest → InTurn 0 last (looked (back_line p) n ++ rest)
back-in p rest n last follows here behind = go (n == 0)
  where
    go : (b : Bool) → InTurn 0 last (cond b [] (back_line p n ∷ []) ++ rest)
    go true = here
    go false = (follows, behind)

visit-in : (v : Visit) (rest : List Line) (last : Option Outline) → IsBefore v.peer last → TakesFirst v → InTurn 0 last rest → ((l : Outline) → peer_in l ≡ v.peer → InTurn 0 (Some l) rest) → InTurn 0 last (visit_lines v ++ rest)
visit-in v rest last before first here behind =
    subst (InTurn 0 last) (sym joined)
    (back-in p (puts ++ (see ++ (takes ++ rest))) v.back last (later-follows last (outline.Back p v.back) before)
    (by-puts last (later-follows last (outline.Put p) before) (later-follows last (outline.See p v.see) before) here)
    (by-puts (Some (outline.Back p v.back)) (part-follows (outline.Back p v.back) (outline.Put p) refl refl) (part-follows (outline.Back p v.back) (outline.See p v.see) refl refl) (behind (outline.Back p v.back) refl)))
  where
    p : ℕ
    p = v.peer

    back : List Line
    back = looked (back_line v.peer) v.back

    puts : List Line
    puts = map (put_line v.peer) v.owed

    see : List Line
    see = looked (see_line v.peer) v.see

    takes : List Line
    takes = map (taken_line v.peer) v.takes

    joined : visit_lines v ++ rest ≡ back ++ (puts ++ (see ++ (takes ++ rest)))
    joined = append_assoc back (puts ++ (see ++ takes)) rest ∙ ap (λ ls. back ++ ls) (append_assoc puts (see ++ takes) rest ∙ ap (λ ls. puts ++ ls) (append_assoc see takes rest))

    by-puts : (now : Option Outline) → may_follow now (outline.Put v.peer) ≡ true → may_follow now (outline.See v.peer v.see) ≡ true → InTurn 0 now rest → InTurn 0 now (puts ++ (see ++ (takes ++ rest)))
    by-puts now put_follows see_follows rests =
        puts-in v.peer (see ++ (takes ++ rest)) v.owed now put_follows
        (see-in v.peer rest v.see v.takes now first see_follows rests behind)
        (see-in v.peer rest v.see v.takes (Some (outline.Put v.peer)) first (part-follows (outline.Put v.peer) (outline.See v.peer v.see) refl refl) (behind (outline.Put v.peer) refl) behind)

pub visits-in : (vs : List Visit) (last : Option Outline) → AreRising (map (λ v. v.peer) vs) → AllByRecursion TakesFirst vs → AllByRecursion (λ q. IsBefore q last) (map (λ v. v.peer) vs) → InTurn 0 last (flat_map visit_lines vs)
visits-in [] last rise first before = refl
visits-in (v ∷ vs) last rise first before =
    visit-in v (flat_map visit_lines vs) last before.0 first.0 (visits-in vs last rise.1 first.1 before.1)
    (λ l same. visits-in vs (Some l) rise.1 first.1 (all-weaken (λ m. v.peer < m) (λ q. IsBefore q (Some l)) (λ m less. omega (arith, same, less)) (map (λ w. w.peer) vs) rise.0))

pub none-before : (qs : List ℕ) → AllByRecursion (λ q. IsBefore q None) qs
none-before [] = tt
none-before (q ∷ qs) = (tt, none-before qs)

-- ---- they are lines that a turn may have

pub each-peer : (peers : List ℕ) → AllByRecursion (λ q. is_peer peers q ≡ true) peers
each-peer [] = tt
each-peer (p ∷ ps) = (
  ap (λ b. b || is_peer ps p) (eq-eqb p p refl),
  all-weaken (λ q. is_peer ps q ≡ true) (λ q. is_peer (p ∷ ps) q ≡ true) (λ q there. ap (λ b. (p == q) || b) there ∙ or-true (p == q)) ps (each-peer ps),
)

module _ (peers : List ℕ) where
  abbrev pub IsPossible : Line → Type 0
  IsPossible l = is_possible peers (outline_of l) ≡ true

  look-possible : (line : ℕ → Line) (n : ℕ) → ((n == 0) ≡ false → IsPossible (line n)) → AllByRecursion IsPossible (looked line n)
  look-possible line n may = go (n == 0) refl
    where
      go : (b : Bool) → (n == 0) ≡ b → AllByRecursion IsPossible (cond b [] (line n ∷ []))
      go true is = tt
      go false is = (may is, tt)

  some-seen : (p n : ℕ) → is_peer peers p ≡ true → (n == 0) ≡ false → (is_peer peers p && nat_lt 0 n) ≡ true
  some-seen p n there some = let test : nat_lt 0 n ≡ true = grind (arith, nat_tests) in ap₂ (λ a b. a && b) there test

  all-lines : {X : Type 0} (line : X → Line) (xs : List X) → ((x : X) → IsPossible (line x)) → AllByRecursion IsPossible (map line xs)
  all-lines line [] each = tt
  all-lines line (x ∷ xs) each = (each x, all-lines line xs each)

  visit-possible : (v : Visit) → is_peer peers v.peer ≡ true → AllByRecursion IsPossible (visit_lines v)
  visit-possible v there =
      all-append IsPossible (looked (back_line v.peer) v.back) (map (put_line v.peer) v.owed ++ (looked (see_line v.peer) v.see ++ map (taken_line v.peer) v.takes)) (look-possible (back_line v.peer) v.back (some-seen v.peer v.back there))
      (all-append IsPossible (map (put_line v.peer) v.owed) (looked (see_line v.peer) v.see ++ map (taken_line v.peer) v.takes) (all-lines (put_line v.peer) v.owed (λ f. there))
      (all-append IsPossible (looked (see_line v.peer) v.see) (map (taken_line v.peer) v.takes) (look-possible (see_line v.peer) v.see (some-seen v.peer v.see there)) (all-lines (taken_line v.peer) v.takes (λ t. there))))

  pub visits-possible : (vs : List Visit) → AllByRecursion (λ q. is_peer peers q ≡ true) (map (λ v. v.peer) vs) → AllByRecursion IsPossible (flat_map visit_lines vs)
  visits-possible [] there = tt
  visits-possible (v ∷ vs) there = all-append IsPossible (visit_lines v) (flat_map visit_lines vs) (visit-possible v there.0) (visits-possible vs there.1)

-- ---- a turn without lines is idle

look-none : (line : ℕ → Line) (n : ℕ) → length (looked line n) ≡ 0 → (n == 0) ≡ true
look-none line n none = go (n == 0) none
  where
    go : (b : Bool) → length (cond b [] (line n ∷ [])) ≡ 0 → b ≡ true
    go true none = refl
    go false none = absurd (omega (arith, none))

visit-idle : (v : Visit) → length (visit_lines v) ≡ 0 → is_idle v ≡ true
visit-idle v none =
    let back : List Line = looked (back_line v.peer) v.back in
    let puts : List Line = map (put_line v.peer) v.owed in
    let see : List Line = looked (see_line v.peer) v.see in
    let takes : List Line = map (taken_line v.peer) v.takes in
    let one = length-append back (puts ++ (see ++ takes)) in
    let two = length-append puts (see ++ takes) in
    let three = length-append see takes in
    let owed = length-map v.owed (put_line v.peer) in
    let taken = length-map v.takes (taken_line v.peer) in
    and_from (v.back == 0) (length v.owed == 0 && (v.see == 0 && length v.takes == 0)) (look-none (back_line v.peer) v.back (omega (arith, none, one)))
    (and_from (length v.owed == 0) (v.see == 0 && length v.takes == 0) (eq-eqb (length v.owed) 0 (omega (arith, none, one, two, owed)))
    (and_from (v.see == 0) (length v.takes == 0) (look-none (see_line v.peer) v.see (omega (arith, none, one, two, three))) (eq-eqb (length v.takes) 0 (omega (arith, none, one, two, three, taken)))))

pub visits-idle : (vs : List Visit) → length (flat_map visit_lines vs) ≡ 0 → list_all is_idle vs ≡ true
visits-idle [] none = refl
visits-idle (v ∷ vs) none =
    let parts = length-append (visit_lines v) (flat_map visit_lines vs) in
    and_from (is_idle v) (list_all is_idle vs) (visit-idle v (omega (arith, none, parts))) (visits-idle vs (omega (arith, none, parts)))
