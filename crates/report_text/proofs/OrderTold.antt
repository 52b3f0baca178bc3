-- Lines of a turn that are in order are those of the visits that they tell.
use Rattle.std.proofs.Common.{◌≡◌, ℕ, suc, ◌+◌, ◌-◌, ◌*◌, ◌<◌, ◌≤◌, inl, inr, Bool, true, false, ◌&&◌, ◌||◌, cond, List, [], ◌∷◌, ◌++◌, length, map, sum_by, Option, Some, None, refl, sym, ap, ap₂, subst, ◌∙◌, arith, eqb-true, eq-eqb, ne_eqb}
use Rattle.std.specs.Prelude.{nat_lt, ◌==◌}
use Rattle.std.specs.List.{AllByRecursion, flat_map, list_any}
use Rattle.std.proofs.lemmas.Bool.{and_parts}
use Rattle.std.proofs.lemmas.Bool.Decides.{nat_tests, eqb_tells}
use Rattle.std.proofs.lemmas.List.Sums.{sum_by-cons}
use Rattle.board_model.specs.Journal.{Taken, taken, Visit, Line, back_line, put_line, see_line, take_line, idle_line, again_line, spin_line, turn_line, wait_line, call_line, looked, taken_line, visit_lines}
use Rattle.board_model.specs.Unjoined.{back_in, owed_in, see_in, takes_in, visit_in}
use Rattle.board_model.proofs.BoardsRising.{AreRising}
use Rattle.board_model.proofs.JournalReading.{IsOfTurn}
use Rattle.report_text.specs.declared.outline.Outline.{Outline}
use Rattle.report_text.specs.Outlines.{outline_of}
use Rattle.report_text.specs.TextLines.{moved}
use Rattle.report_text.specs.TurnOrder.{is_put, is_peer, is_possible, impossible_place, peer_in, part_in, comes_after, is_next, takes_due, shown_at, unless_due, order_place}
use Rattle.report_text.proofs.NothingWrong.{none-next}

-- ---- the place of a line in its turn

abbrev peer_at : Line → ℕ
peer_at l = peer_in (outline_of l)

abbrev part_at : Line → ℕ
part_at l = part_in (outline_of l)

-- by peers, and at each by the parts of a visit
abbrev key : Line → ℕ
key l = 4 * peer_at l + part_at l

-- the least place of a line behind this one: puts and takes may follow each other at one place, and looks not
abbrev past : Line → ℕ
past (back_line p n) = 4 * p + 1
past (see_line p n) = 4 * p + 3
past l = key l

abbrev AreFrom : ℕ → List Line → Type 0
AreFrom k ls = AllByRecursion (λ l. k ≤ key l) ls

from-weaker : (j k : ℕ) (ls : List Line) → j ≤ k → AreFrom k ls → AreFrom j ls
from-weaker j k [] le from = tt
from-weaker j k (l ∷ ls) le from = (let first = from.0 in omega (arith, le, first), from-weaker j k ls le from.1)

-- ---- what lines from a place on say of the parts before it

sum-skip : (f : Line → ℕ) (l : Line) (ls : List Line) → f l ≡ 0 → sum_by f (l ∷ ls) ≡ sum_by f ls
sum-skip f l ls none = omega (arith, sum_by-cons f l ls, none)

apart : (p q : ℕ) → (p ≡ q → ⊥) → (p == q) ≡ false
apart p q differ = ne_eqb p q differ

back-none : (q k : ℕ) (ls : List Line) → 4 * q < k → AllByRecursion IsOfTurn ls → AreFrom k ls → sum_by (back_in q) ls ≡ 0
back-none q k [] lt all from = refl
back-none q k (back_line p n ∷ ls) lt all from =
    let first = from.0 in
    omega (arith, sum_by-cons (back_in q) (back_line p n) ls, ap (λ b. cond b n 0) (apart p q (λ e. omega (arith, e, lt, first))), back-none q k ls lt all.1 from.1)
back-none q k (put_line p f ∷ ls) lt all from = sum-skip (back_in q) (put_line p f) ls refl ∙ back-none q k ls lt all.1 from.1
back-none q k (see_line p n ∷ ls) lt all from = sum-skip (back_in q) (see_line p n) ls refl ∙ back-none q k ls lt all.1 from.1
back-none q k (take_line p f w ∷ ls) lt all from = sum-skip (back_in q) (take_line p f w) ls refl ∙ back-none q k ls lt all.1 from.1
back-none q k (idle_line n ∷ ls) lt all from = absurd all.0
back-none q k (again_line w ∷ ls) lt all from = absurd all.0
back-none q k (spin_line n w ∷ ls) lt all from = absurd all.0
back-none q k (turn_line ∷ ls) lt all from = absurd all.0
back-none q k (wait_line n ∷ ls) lt all from = absurd all.0
back-none q k (call_line n a ∷ ls) lt all from = absurd all.0

see-none : (q k : ℕ) (ls : List Line) → 4 * q + 2 < k → AllByRecursion IsOfTurn ls → AreFrom k ls → sum_by (see_in q) ls ≡ 0
see-none q k [] lt all from = refl
see-none q k (see_line p n ∷ ls) lt all from =
    let first = from.0 in
    omega (arith, sum_by-cons (see_in q) (see_line p n) ls, ap (λ b. cond b n 0) (apart p q (λ e. omega (arith, e, lt, first))), see-none q k ls lt all.1 from.1)
see-none q k (back_line p n ∷ ls) lt all from = sum-skip (see_in q) (back_line p n) ls refl ∙ see-none q k ls lt all.1 from.1
see-none q k (put_line p f ∷ ls) lt all from = sum-skip (see_in q) (put_line p f) ls refl ∙ see-none q k ls lt all.1 from.1
see-none q k (take_line p f w ∷ ls) lt all from = sum-skip (see_in q) (take_line p f w) ls refl ∙ see-none q k ls lt all.1 from.1
see-none q k (idle_line n ∷ ls) lt all from = absurd all.0
see-none q k (again_line w ∷ ls) lt all from = absurd all.0
see-none q k (spin_line n w ∷ ls) lt all from = absurd all.0
see-none q k (turn_line ∷ ls) lt all from = absurd all.0
see-none q k (wait_line n ∷ ls) lt all from = absurd all.0
see-none q k (call_line n a ∷ ls) lt all from = absurd all.0

owed-none : (q k : ℕ) (ls : List Line) → 4 * q + 1 < k → AllByRecursion IsOfTurn ls → AreFrom k ls → flat_map (owed_in q) ls ≡ []
owed-none q k [] lt all from = refl
owed-none q k (put_line p f ∷ ls) lt all from =
    let first = from.0 in
    ap₂ (λ xs ys. xs ++ ys) (ap (λ b. cond b (f ∷ []) []) (apart p q (λ e. omega (arith, e, lt, first)))) (owed-none q k ls lt all.1 from.1)
owed-none q k (back_line p n ∷ ls) lt all from = owed-none q k ls lt all.1 from.1
owed-none q k (see_line p n ∷ ls) lt all from = owed-none q k ls lt all.1 from.1
owed-none q k (take_line p f w ∷ ls) lt all from = owed-none q k ls lt all.1 from.1
owed-none q k (idle_line n ∷ ls) lt all from = absurd all.0
owed-none q k (again_line w ∷ ls) lt all from = absurd all.0
owed-none q k (spin_line n w ∷ ls) lt all from = absurd all.0
owed-none q k (turn_line ∷ ls) lt all from = absurd all.0
owed-none q k (wait_line n ∷ ls) lt all from = absurd all.0
owed-none q k (call_line n a ∷ ls) lt all from = absurd all.0

takes-none : (q k : ℕ) (ls : List Line) → 4 * q + 3 < k → AllByRecursion IsOfTurn ls → AreFrom k ls → flat_map (takes_in q) ls ≡ []
takes-none q k [] lt all from = refl
takes-none q k (take_line p f w ∷ ls) lt all from =
    let first = from.0 in
    ap₂ (λ xs ys. xs ++ ys) (ap (λ b. cond b (taken f w ∷ []) []) (apart p q (λ e. omega (arith, e, lt, first)))) (takes-none q k ls lt all.1 from.1)
takes-none q k (back_line p n ∷ ls) lt all from = takes-none q k ls lt all.1 from.1
takes-none q k (see_line p n ∷ ls) lt all from = takes-none q k ls lt all.1 from.1
takes-none q k (put_line p f ∷ ls) lt all from = takes-none q k ls lt all.1 from.1
takes-none q k (idle_line n ∷ ls) lt all from = absurd all.0
takes-none q k (again_line w ∷ ls) lt all from = absurd all.0
takes-none q k (spin_line n w ∷ ls) lt all from = absurd all.0
takes-none q k (turn_line ∷ ls) lt all from = absurd all.0
takes-none q k (wait_line n ∷ ls) lt all from = absurd all.0
takes-none q k (call_line n a ∷ ls) lt all from = absurd all.0

visit-is : (q : ℕ) {a b : ℕ} {c d : List (List ℕ)} {e f : ℕ} {g h : List Taken} → a ≡ b → c ≡ d → e ≡ f → g ≡ h → (let v : Visit = record { peer = q; back = a; owed = c; see = e; takes = g } in v) ≡ record { peer = q; back = b; owed = d; see = f; takes = h }
visit-is q x y z w = λ i. record { peer = q; back = x i; owed = y i; see = z i; takes = w i }

-- an earlier peer is not visited
before-none : (q k : ℕ) (ls : List Line) → 4 * q + 3 < k → AllByRecursion IsOfTurn ls → AreFrom k ls → visit_lines (visit_in ls q) ≡ []
before-none q k ls lt all from = ap visit_lines (visit-is q (back-none q k ls (omega (arith, lt)) all from) (owed-none q k ls (omega (arith, lt)) all from) (see-none q k ls (omega (arith, lt)) all from) (takes-none q k ls lt all from))

-- ---- one line more in front

abbrev IsSeen : Line → Type 0
IsSeen (back_line p n) = (n == 0) ≡ false
IsSeen (see_line p n) = (n == 0) ≡ false
IsSeen other = Unit {0}

look-line : (line : ℕ → Line) (n : ℕ) → (n == 0) ≡ false → looked line (n + 0) ≡ line n ∷ []
look-line line n some = ap (looked line) (plus-none n) ∙ ap (λ b. cond b [] (line n ∷ [])) some
  where
    plus-none : (n : ℕ) → n + 0 ≡ n
    plus-none n = omega arith

-- at its own peer it is the first line of the visit
own-line : (l : Line) (ls : List Line) → IsOfTurn l → IsSeen l → AllByRecursion IsOfTurn ls → AreFrom (past l) ls → visit_lines (visit_in (l ∷ ls) (peer_at l)) ≡ l ∷ visit_lines (visit_in ls (peer_at l))
own-line (back_line p n) ls is seen all from =
    let own : (p == p) ≡ true = eq-eqb p p refl in
    let none : sum_by (back_in p) ls ≡ 0 = back-none p (4 * p + 1) ls (omega arith) all from in
    let back : sum_by (back_in p) (back_line p n ∷ ls) ≡ n + 0 = sum_by-cons (back_in p) (back_line p n) ls ∙ ap₂ (λ (x y : ℕ). x + y) (ap (λ b. cond b n 0) own) none in
    ap visit_lines (visit-is p back refl (sum-skip (see_in p) (back_line p n) ls refl) refl)
    ∙ ap (λ xs. xs ++ (map (put_line p) (flat_map (owed_in p) ls) ++ (looked (see_line p) (sum_by (see_in p) ls) ++ map (taken_line p) (flat_map (takes_in p) ls)))) (look-line (back_line p) n seen)
    ∙ sym (ap (λ (x : ℕ). back_line p n ∷ visit_lines (record (visit_in ls p) { back = x })) none)
own-line (put_line p f) ls is seen all from =
    let own : (p == p) ≡ true = eq-eqb p p refl in
    let none : sum_by (back_in p) ls ≡ 0 = back-none p (4 * p + 1) ls (omega arith) all from in
    ap visit_lines (visit-is p (sum-skip (back_in p) (put_line p f) ls refl ∙ none) (ap (λ b. cond b (f ∷ []) [] ++ flat_map (owed_in p) ls) own) (sum-skip (see_in p) (put_line p f) ls refl) refl)
    ∙ sym (ap (λ (x : ℕ). put_line p f ∷ visit_lines (record (visit_in ls p) { back = x })) none)
own-line (see_line p n) ls is seen all from =
    let own : (p == p) ≡ true = eq-eqb p p refl in
    let none_back : sum_by (back_in p) ls ≡ 0 = back-none p (4 * p + 3) ls (omega arith) all from in
    let none_owed : flat_map (owed_in p) ls ≡ [] = owed-none p (4 * p + 3) ls (omega arith) all from in
    let none : sum_by (see_in p) ls ≡ 0 = see-none p (4 * p + 3) ls (omega arith) all from in
    let see : sum_by (see_in p) (see_line p n ∷ ls) ≡ n + 0 = sum_by-cons (see_in p) (see_line p n) ls ∙ ap₂ (λ (x y : ℕ). x + y) (ap (λ b. cond b n 0) own) none in
    ap visit_lines (visit-is p (sum-skip (back_in p) (see_line p n) ls refl ∙ none_back) none_owed see refl)
    ∙ ap (λ xs. xs ++ map (taken_line p) (flat_map (takes_in p) ls)) (look-line (see_line p) n seen)
    ∙ sym (ap (λ v. see_line p n ∷ visit_lines v) (visit-is p none_back none_owed none refl))
own-line (take_line p f w) ls is seen all from =
    let own : (p == p) ≡ true = eq-eqb p p refl in
    let none_back : sum_by (back_in p) ls ≡ 0 = back-none p (4 * p + 3) ls (omega arith) all from in
    let none_owed : flat_map (owed_in p) ls ≡ [] = owed-none p (4 * p + 3) ls (omega arith) all from in
    let none_see : sum_by (see_in p) ls ≡ 0 = see-none p (4 * p + 3) ls (omega arith) all from in
    ap visit_lines (visit-is p (sum-skip (back_in p) (take_line p f w) ls refl ∙ none_back) none_owed (sum-skip (see_in p) (take_line p f w) ls refl ∙ none_see) (ap (λ b. cond b (taken f w ∷ []) [] ++ flat_map (takes_in p) ls) own))
    ∙ sym (ap (λ v. take_line p f w ∷ visit_lines v) (visit-is p none_back none_owed none_see refl))
own-line (idle_line n) ls is seen all from = absurd is
own-line (again_line w) ls is seen all from = absurd is
own-line (spin_line n w) ls is seen all from = absurd is
own-line turn_line ls is seen all from = absurd is
own-line (wait_line n) ls is seen all from = absurd is
own-line (call_line n a) ls is seen all from = absurd is

-- at another it says nothing
other-line : (l : Line) (ls : List Line) (q : ℕ) → (peer_at l ≡ q → ⊥) → IsOfTurn l → visit_in (l ∷ ls) q ≡ visit_in ls q
other-line (back_line p n) ls q differ is = visit-is q (sum-skip (back_in q) (back_line p n) ls (ap (λ b. cond b n 0) (apart p q differ))) refl (sum-skip (see_in q) (back_line p n) ls refl) refl
other-line (put_line p f) ls q differ is = visit-is q (sum-skip (back_in q) (put_line p f) ls refl) (ap (λ b. cond b (f ∷ []) [] ++ flat_map (owed_in q) ls) (apart p q differ)) (sum-skip (see_in q) (put_line p f) ls refl) refl
other-line (see_line p n) ls q differ is = visit-is q (sum-skip (back_in q) (see_line p n) ls refl) refl (sum-skip (see_in q) (see_line p n) ls (ap (λ b. cond b n 0) (apart p q differ))) refl
other-line (take_line p f w) ls q differ is = visit-is q (sum-skip (back_in q) (take_line p f w) ls refl) refl (sum-skip (see_in q) (take_line p f w) ls refl) (ap (λ b. cond b (taken f w ∷ []) [] ++ flat_map (takes_in q) ls) (apart p q differ))
other-line (idle_line n) ls q differ is = absurd is
other-line (again_line w) ls q differ is = absurd is
other-line (spin_line n w) ls q differ is = absurd is
other-line turn_line ls q differ is = absurd is
other-line (wait_line n) ls q differ is = absurd is
other-line (call_line n a) ls q differ is = absurd is

-- ---- at all peers

key-past : (l : Line) → key l ≤ past l
key-past (back_line p n) = omega arith
key-past (put_line p f) = omega arith
key-past (see_line p n) = omega arith
key-past (take_line p f w) = omega arith
key-past (idle_line n) = omega arith
key-past (again_line w) = omega arith
key-past (spin_line n w) = omega arith
key-past turn_line = omega arith
key-past (wait_line n) = omega arith
key-past (call_line n a) = omega arith

after-same : (l : Line) (ls : List Line) (p : ℕ) (qs : List ℕ) → peer_at l ≡ p → IsOfTurn l → AllByRecursion (λ m. p < m) qs → map (visit_in (l ∷ ls)) qs ≡ map (visit_in ls) qs
after-same l ls p [] is turn above = refl
after-same l ls p (q ∷ qs) is turn above =
    let high = above.0 in
    ap₂ (λ (v : Visit) (vs : List Visit). v ∷ vs) (other-line l ls q (λ e. omega (arith, e, is, high)) turn) (after-same l ls p qs is turn above.1)

member-all : (P : ℕ → Type 0) (p : ℕ) (qs : List ℕ) → list_any (λ q. q == p) qs ≡ true → AllByRecursion P qs → P p
member-all P p [] e all = absurd cc
member-all P p (q ∷ qs) e all = go (q == p) refl e (λ k. member-all P p qs k all.1)
  where
    go : (b : Bool) → (q == p) ≡ b → (b || list_any (λ q. q == p) qs) ≡ true → (list_any (λ q. q == p) qs ≡ true → P p) → P p
    go true is e rest = subst P (eqb-true q p is) all.0
    go false is e rest = rest e

visits-front : (peers : List ℕ) (l : Line) (ls : List Line) → AreRising peers → is_peer peers (peer_at l) ≡ true → IsOfTurn l → IsSeen l → AllByRecursion IsOfTurn ls → AreFrom (past l) ls
    → flat_map visit_lines (map (visit_in (l ∷ ls)) peers) ≡ l ∷ flat_map visit_lines (map (visit_in ls) peers)
visits-front [] l ls rise there turn seen all from = absurd cc
visits-front (q ∷ qs) l ls rise there turn seen all from = elim (eqb_tells q (peer_at l)) [
  | inl same ↦
      ap₂ (λ (xs ys : List Line). xs ++ ys)
      (ap (λ n. visit_lines (visit_in (l ∷ ls) n)) same.1 ∙ own-line l ls turn seen all from ∙ ap (λ n. l ∷ visit_lines (visit_in ls n)) (sym same.1))
      (ap (flat_map visit_lines) (after-same l ls q qs (sym same.1) turn rise.0))
  | inr differ ↦
      let later : list_any (λ m. m == peer_at l) qs ≡ true = sym (ap (λ b. b || list_any (λ m. m == peer_at l) qs) differ.0) ∙ there in
      let less : q < peer_at l = member-all (λ m. q < m) (peer_at l) qs later rise.0 in
      let weak : AreFrom (key l) ls = from-weaker (key l) (past l) ls (key-past l) from in
      ap₂ (λ (xs ys : List Line). xs ++ ys) (before-none q (key l) (l ∷ ls) (omega (arith, less)) (turn, all) (omega arith, weak)) (visits-front qs l ls rise.1 later turn seen all from)
      ∙ ap (λ (xs : List Line). l ∷ (xs ++ flat_map visit_lines (map (visit_in ls) qs))) (sym (before-none q (key l) ls (omega (arith, less)) all weak))
]

abbrev InOrder : List Line → Type 0
InOrder [] = Unit {0}
InOrder (l ∷ ls) = AreFrom (past l) ls × InOrder ls

no-visits : (peers : List ℕ) → flat_map visit_lines (map (visit_in []) peers) ≡ []
no-visits [] = refl
no-visits (p ∷ ps) = no-visits ps

seen-of : (peers : List ℕ) (l : Line) → IsOfTurn l → is_possible peers (outline_of l) ≡ true → (is_peer peers (peer_at l) ≡ true) × IsSeen l
seen-of peers (back_line p n) turn e = let parts = and_parts (is_peer peers p) (nat_lt 0 n) e in let test = parts.1 in (parts.0, grind (arith, nat_tests))
seen-of peers (put_line p f) turn e = (e, tt)
seen-of peers (see_line p n) turn e = let parts = and_parts (is_peer peers p) (nat_lt 0 n) e in let test = parts.1 in (parts.0, grind (arith, nat_tests))
seen-of peers (take_line p f w) turn e = (e, tt)
seen-of peers (idle_line n) turn e = absurd turn
seen-of peers (again_line w) turn e = absurd turn
seen-of peers (spin_line n w) turn e = absurd turn
seen-of peers turn_line turn e = absurd turn
seen-of peers (wait_line n) turn e = absurd turn
seen-of peers (call_line n a) turn e = absurd turn

in-order : (peers : List ℕ) (ls : List Line) → AreRising peers → AllByRecursion IsOfTurn ls → AllByRecursion (λ l. is_possible peers (outline_of l) ≡ true) ls → InOrder ls → ls ≡ flat_map visit_lines (map (visit_in ls) peers)
in-order peers [] rise turn possible order = sym (no-visits peers)
in-order peers (l ∷ ls) rise turn possible order =
    let seen = seen-of peers l turn.0 possible.0 in
    ap (λ ks. l ∷ ks) (in-order peers ls rise turn.1 possible.1 order.1) ∙ sym (visits-front peers l ls rise seen.0 turn.0 seen.1 turn.1 order.0)

-- ---- as the first pass finds them

past-high : (k : Line) → IsOfTurn k → past k ≤ 4 * peer_at k + 3
past-high (back_line p n) turn = omega arith
past-high (put_line p f) turn = omega arith
past-high (see_line p n) turn = omega arith
past-high (take_line p f w) turn = omega arith
past-high (idle_line n) turn = absurd turn
past-high (again_line w) turn = absurd turn
past-high (spin_line n w) turn = absurd turn
past-high turn_line turn = absurd turn
past-high (wait_line n) turn = absurd turn
past-high (call_line n a) turn = absurd turn

past-next : (k : Line) → past k ≤ key k + 1
past-next (back_line p n) = omega arith
past-next (put_line p f) = omega arith
past-next (see_line p n) = omega arith
past-next (take_line p f w) = omega arith
past-next (idle_line n) = omega arith
past-next (again_line w) = omega arith
past-next (spin_line n w) = omega arith
past-next turn_line = omega arith
past-next (wait_line n) = omega arith
past-next (call_line n a) = omega arith

past-put : (k : Line) → IsOfTurn k → is_put (outline_of k) ≡ true → (past k ≡ 4 * peer_at k + 1) × (part_at k ≡ 1)
past-put (back_line p n) turn e = absurd cc
past-put (put_line p f) turn e = (refl, refl)
past-put (see_line p n) turn e = absurd cc
past-put (take_line p f w) turn e = absurd cc
past-put (idle_line n) turn e = absurd turn
past-put (again_line w) turn e = absurd turn
past-put (spin_line n w) turn e = absurd turn
past-put turn_line turn e = absurd turn
past-put (wait_line n) turn e = absurd turn
past-put (call_line n a) turn e = absurd turn

comes : (k l : Line) → IsOfTurn k → IsOfTurn l → comes_after (outline_of k) (outline_of l) ≡ true → past k ≤ key l
comes k l at to e = first (nat_lt (peer_at k) (peer_at l)) refl e
  where
    third : (b c : Bool) → peer_at k ≡ peer_at l → is_put (outline_of k) ≡ b → is_put (outline_of l) ≡ c → (b && c) ≡ true → past k ≤ key l
    third true true same is is' e = let a = past-put k at is in let b = past-put l to is' in omega (arith, a.0, b.1, same)
    third true false same is is' e = absurd cc
    third false c same is is' e = absurd cc

    second : (a b : Bool) → (peer_at k == peer_at l) ≡ a → nat_lt (part_at k) (part_at l) ≡ b → (a && (b || (is_put (outline_of k) && is_put (outline_of l)))) ≡ true → past k ≤ key l
    second true true is is' e = let same = eqb-true (peer_at k) (peer_at l) is in let less : part_at k < part_at l = grind (arith, nat_tests) in let high = past-next k in omega (arith, same, less, high)
    second true false is is' e = third (is_put (outline_of k)) (is_put (outline_of l)) (eqb-true (peer_at k) (peer_at l) is) refl refl e
    second false b is is' e = absurd cc

    first : (a : Bool) → nat_lt (peer_at k) (peer_at l) ≡ a → (a || ((peer_at k == peer_at l) && (nat_lt (part_at k) (part_at l) || (is_put (outline_of k) && is_put (outline_of l))))) ≡ true → past k ≤ key l
    first true is e = let less : peer_at k < peer_at l = grind (arith, nat_tests) in let high = past-high k at in omega (arith, less, high)
    first false is e = second (peer_at k == peer_at l) (nat_lt (part_at k) (part_at l)) refl refl e

follows : (due : ℕ) (k l : Line) → IsOfTurn k → IsOfTurn l → is_next due (Some (outline_of k)) (outline_of l) ≡ true → past k ≤ key l
follows due k (back_line p n) at to e = comes k (back_line p n) at to (and_parts (due == 0) (comes_after (outline_of k) (outline_of (back_line p n))) e).1
follows due k (put_line p f) at to e = comes k (put_line p f) at to (and_parts (due == 0) (comes_after (outline_of k) (outline_of (put_line p f))) e).1
follows due k (see_line p n) at to e = comes k (see_line p n) at to (and_parts (due == 0) (comes_after (outline_of k) (outline_of (see_line p n))) e).1
follows due k (take_line p f w) at to e = let same = eqb-true (peer_at k) p (and_parts (nat_lt 0 due) (peer_at k == p) e).1 in let high = past-high k at in omega (arith, same, high)
follows due k (idle_line n) at to e = absurd to
follows due k (again_line w) at to e = absurd to
follows due k (spin_line n w) at to e = absurd to
follows due k turn_line at to e = absurd to
follows due k (wait_line n) at to e = absurd to
follows due k (call_line n a) at to e = absurd to

-- one line of so many
order-step : (own due : ℕ) (last : Option Outline) (l : Outline) (ls : List Outline) (n : ℕ) → own ≡ suc n → order_place own due last (l ∷ ls) ≡ None → (is_next due last l ≡ true) × (order_place n (takes_due due l) (Some l) ls ≡ None)
order-step own due last l ls n is e =
    let some : (own == 0) ≡ false = ne_eqb own 0 (λ z. omega (arith, z, is)) in
    let less : own - 1 ≡ n = omega (arith, is) in
    let next = none-next (is_next due last l) (order_place (own - 1) (takes_due due l) (Some l) ls) (shown_at due (l ∷ ls)) (sym (ap (λ b. cond b (unless_due due) (cond (is_next due last l) (moved 1 (order_place (own - 1) (takes_due due l) (Some l) ls)) (Some (shown_at due (l ∷ ls))))) some) ∙ e) in
    (next.0, ap (λ m. order_place m (takes_due due l) (Some l) ls) (sym less) ∙ next.1)

order-behind : (due : ℕ) (k : Line) (ls : List Line) (others : List Outline) → IsOfTurn k → AllByRecursion IsOfTurn ls → order_place (length ls) due (Some (outline_of k)) (map outline_of ls ++ others) ≡ None → AreFrom (past k) ls × InOrder ls
order-behind due k [] others at all e = (tt, tt)
order-behind due k (l ∷ ls) others at all e =
    let step = order-step (suc (length ls)) due (Some (outline_of k)) (outline_of l) (map outline_of ls ++ others) (length ls) refl e in
    let rest = order-behind (takes_due due (outline_of l)) l ls others all.0 all.1 step.1 in
    let le = follows due k l at all.0 step.0 in
    ((le, from-weaker (past k) (past l) ls (let high = key-past l in omega (arith, le, high)) rest.0), rest)

order-is : (ls : List Line) (others : List Outline) → AllByRecursion IsOfTurn ls → order_place (length ls) 0 None (map outline_of ls ++ others) ≡ None → InOrder ls
order-is [] others all e = tt
order-is (l ∷ ls) others all e =
    let step = order-step (suc (length ls)) 0 None (outline_of l) (map outline_of ls ++ others) (length ls) refl e in
    order-behind (takes_due 0 (outline_of l)) l ls others all.0 all.1 step.1

possible-are : (peers : List ℕ) (ls : List Line) (others : List Outline) → impossible_place peers (map outline_of ls ++ others) ≡ None → AllByRecursion (λ l. is_possible peers (outline_of l) ≡ true) ls
possible-are peers [] others e = tt
possible-are peers (l ∷ ls) others e = let one = none-next (is_possible peers (outline_of l)) (impossible_place peers (map outline_of ls ++ others)) 0 e in (one.0, possible-are peers ls others one.1)

pub turn-lines : (peers : List ℕ) (ls : List Line) (others : List Outline) → AreRising peers → AllByRecursion IsOfTurn ls → impossible_place peers (map outline_of ls ++ others) ≡ None → order_place (length ls) 0 None (map outline_of ls ++ others) ≡ None → ls ≡ flat_map visit_lines (map (visit_in ls) peers)
turn-lines peers ls others rise all possible order = in-order peers ls rise all (possible-are peers ls others possible) (order-is ls others all order)
