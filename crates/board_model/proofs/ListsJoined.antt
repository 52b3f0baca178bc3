-- Sums over the lines of a journal are sums over its entries, since what joins, idle turns and tries, weighs nothing.
use Rattle.std.proofs.Common.{◌≡◌, ℕ, suc, ◌+◌, ◌-◌, ◌^◌, Bool, true, false, cond, ltb, List, [], ◌∷◌, ◌++◌, length, map, take, drop, Option, Some, None, sum_by, flat_map, slice_get, refl, sym, ap, ap₂, ◌∙◌, arith, eqb-true, drop-cons, take-append-drop}
use Rattle.std.proofs.Math.Seq.{drop-length}
use Rattle.std.specs.Prelude.{◌==◌, ◌&&◌, slice_set}
use Rattle.std.specs.List.{list_all, AllByRecursion}
use Rattle.std.proofs.lemmas.Bool.{and_parts}
use Rattle.std.proofs.lemmas.Option.{slice_get_within, get_or_from_slice_get}
use Rattle.std.proofs.lemmas.List.Sums.{sum_by-cons, sum_by-append, sum_by-set}
use Rattle.mc_base.specs.declared.refusal.Refusal.{Refusal}
use Rattle.board_model.specs.Journal.{PlainEntry, turned, put, again, waits, called, Visit, Line, idle_line, again_line, spin_line, turn_line, back_line, put_line, see_line, take_line, wait_line, call_line, is_idle, looked, taken_line, visit_lines, joinable, with_idle, noted_idle, spinning, with_spin, noted_spin, is_one_idle, noted, noted_all, joined}
use Rattle.board_model.specs.Words.{same_word}

-- the lines of an entry, those of an idle turn too
abbrev pub entry_lines : PlainEntry → List Line
entry_lines (turned visits) = turn_line ∷ flat_map visit_lines visits
entry_lines (put peer frame) = put_line peer frame ∷ []
entry_lines (again word) = again_line word ∷ []
entry_lines (waits number) = wait_line number ∷ []
entry_lines (called number answer) = call_line number answer ∷ []

-- ---- idle turns

pub joinable_if : (b : Bool) (m n : ℕ) → cond b (Some m) None ≡ Some n → Some (idle_line m) ≡ Some (idle_line n)
joinable_if true m n e = let same : m ≡ n = cc in ap (λ k. Some (idle_line k)) same
joinable_if false m n e = absurd cc

pub joinable-tells : (o : Option Line) (n : ℕ) → joinable o ≡ Some n → o ≡ Some (idle_line n)
joinable-tells None n e = absurd cc
joinable-tells (Some (idle_line m)) n e = joinable_if (ltb m (2 ^ 64 - 1)) m n e
joinable-tells (Some (again_line w)) n e = absurd cc
joinable-tells (Some (spin_line k w)) n e = absurd cc
joinable-tells (Some turn_line) n e = absurd cc
joinable-tells (Some (back_line p k)) n e = absurd cc
joinable-tells (Some (put_line p f)) n e = absurd cc
joinable-tells (Some (see_line p k)) n e = absurd cc
joinable-tells (Some (take_line p f w)) n e = absurd cc
joinable-tells (Some (call_line k a)) n e = absurd cc
joinable-tells (Some (wait_line k)) n e = absurd cc

-- idle lines, lines of tries and the line of a turn weigh nothing
pub record JoinsWeighNothing (f : Line → ℕ) : Type 0 where
  pub idle : (k : ℕ) → f (idle_line k) ≡ 0
  pub again : (w : Refusal) → f (again_line w) ≡ 0
  pub spin : (k : ℕ) (w : Refusal) → f (spin_line k w) ≡ 0
  pub turn : f turn_line ≡ 0

-- the last line in place of one that weighs as much
sum-last : (f : Line → ℕ) (lines : List Line) (x y : Line) → slice_get lines (length lines - 1) ≡ Some x → f x ≡ f y → sum_by f (slice_set lines (length lines - 1) y) ≡ sum_by f lines
sum-last f lines x y at same =
    let last = length lines - 1 in
    let was = ap f (get_or_from_slice_get lines last x turn_line at) in
    omega (arith, same, was, sum_by-set f lines last y turn_line (slice_get_within lines last x at))

-- without the last line
sum-front : (f : Line → ℕ) (lines : List Line) (x : Line) → slice_get lines (length lines - 1) ≡ Some x → f x ≡ 0 → sum_by f (take (length lines - 1) lines) ≡ sum_by f lines
sum-front f lines x at none =
    let last = length lines - 1 in
    let within = slice_get_within lines last x at in
    let all : suc last ≡ length lines = omega (arith, within) in
    let one : drop last lines ≡ x ∷ [] = drop-cons lines last x within ∙ ap₂ (λ (y : Line) (ys : List Line). y ∷ ys) (get_or_from_slice_get lines last x x at) (ap (λ (k : ℕ). drop k lines) all ∙ drop-length lines) in
    omega (arith, ap (sum_by f) (sym (take-append-drop last lines)), sum_by-append f (take last lines) (drop last lines), ap (sum_by f) one, sum_by-cons f x [], none)

sum-with_idle : (f : Line → ℕ) → JoinsWeighNothing f → (lines : List Line) (o : Option ℕ) → joinable (slice_get lines (length lines - 1)) ≡ o → sum_by f (with_idle o lines) ≡ sum_by f lines
sum-with_idle f joins lines None e = omega (arith, sum_by-append f lines (idle_line 1 ∷ []), sum_by-cons f (idle_line 1) [], joins.idle 1)
sum-with_idle f joins lines (Some n) e =
    sum-last f lines (idle_line n) (idle_line (n + 1)) (joinable-tells (slice_get lines (length lines - 1)) n e) (joins.idle n ∙ sym (joins.idle (n + 1)))

sum-noted_idle : (f : Line → ℕ) → JoinsWeighNothing f → (lines : List Line) → sum_by f (noted_idle lines) ≡ sum_by f lines
sum-noted_idle f joins lines = sum-with_idle f joins lines (joinable (slice_get lines (length lines - 1))) refl

-- ---- tries

spin_if : (b : Bool) (m n : ℕ) (v : Refusal) → cond b (Some m) None ≡ Some n → (w : Refusal) × (Some (spin_line m v) ≡ Some (spin_line n w))
spin_if true m n v e = let same : m ≡ n = cc in (v, ap (λ k. Some (spin_line k v)) same)
spin_if false m n v e = absurd cc

spinning-tells : (word : Refusal) (o : Option Line) (n : ℕ) → spinning word o ≡ Some n → (w : Refusal) × (o ≡ Some (spin_line n w))
spinning-tells word None n e = absurd cc
spinning-tells word (Some (idle_line m)) n e = absurd cc
spinning-tells word (Some (again_line w)) n e = absurd cc
spinning-tells word (Some (spin_line m v)) n e = spin_if (same_word v word && ltb m (2 ^ 64 - 1)) m n v e
spinning-tells word (Some turn_line) n e = absurd cc
spinning-tells word (Some (back_line p k)) n e = absurd cc
spinning-tells word (Some (put_line p f)) n e = absurd cc
spinning-tells word (Some (see_line p k)) n e = absurd cc
spinning-tells word (Some (take_line p f w)) n e = absurd cc
spinning-tells word (Some (call_line k a)) n e = absurd cc
spinning-tells word (Some (wait_line k)) n e = absurd cc

sum-with_spin : (f : Line → ℕ) → JoinsWeighNothing f → (word : Refusal) (lines : List Line) (o : Option ℕ) → spinning word (slice_get lines (length lines - 1)) ≡ o → sum_by f (with_spin word o lines) ≡ sum_by f lines
sum-with_spin f joins word lines None e = omega (arith, sum_by-append f lines (spin_line 1 word ∷ []), sum_by-cons f (spin_line 1 word) [], joins.spin 1 word)
sum-with_spin f joins word lines (Some n) e =
    let t = spinning-tells word (slice_get lines (length lines - 1)) n e in
    sum-last f lines (spin_line n t.0) (spin_line (n + 1) word) t.1 (joins.spin n t.0 ∙ sym (joins.spin (n + 1) word))

one_idle-tells : (o : Option Line) → is_one_idle o ≡ true → (n : ℕ) × (o ≡ Some (idle_line n))
one_idle-tells None e = absurd cc
one_idle-tells (Some (idle_line n)) e = (n, refl)
one_idle-tells (Some (again_line w)) e = absurd cc
one_idle-tells (Some (spin_line k w)) e = absurd cc
one_idle-tells (Some turn_line) e = absurd cc
one_idle-tells (Some (back_line p k)) e = absurd cc
one_idle-tells (Some (put_line p f)) e = absurd cc
one_idle-tells (Some (see_line p k)) e = absurd cc
one_idle-tells (Some (take_line p f w)) e = absurd cc
one_idle-tells (Some (call_line k a)) e = absurd cc
one_idle-tells (Some (wait_line k)) e = absurd cc

sum-again : (f : Line → ℕ) → JoinsWeighNothing f → (word : Refusal) (lines : List Line) (b : Bool) → is_one_idle (slice_get lines (length lines - 1)) ≡ b → sum_by f (cond b (noted_spin word (take (length lines - 1) lines)) (lines ++ again_line word ∷ [])) ≡ sum_by f lines
sum-again f joins word lines true e =
    let front = take (length lines - 1) lines in
    let idle = one_idle-tells (slice_get lines (length lines - 1)) e in
    sum-with_spin f joins word front (spinning word (slice_get front (length front - 1))) refl ∙ sum-front f lines (idle_line idle.0) idle.1 (joins.idle idle.0)
sum-again f joins word lines false e = omega (arith, sum_by-append f lines (again_line word ∷ []), sum_by-cons f (again_line word) [], joins.again word)

pub none_of : {A : Type 0} (xs : List A) → (length xs == 0) ≡ true → xs ≡ []
none_of [] e = refl
none_of (x ∷ xs) e = let h = eqb-true (length (x ∷ xs)) 0 e in absurd (omega arith)

looked-none : (line : ℕ → Line) (n : ℕ) → (n == 0) ≡ true → looked line n ≡ []
looked-none line n e = ap (λ b. cond b [] (line n ∷ [])) e

-- an idle visit has no lines
idle_lines : (v : Visit) → is_idle v ≡ true → visit_lines v ≡ []
idle_lines v e =
    let back = and_parts (v.back == 0) (length v.owed == 0 && (v.see == 0 && length v.takes == 0)) e in
    let owed = and_parts (length v.owed == 0) (v.see == 0 && length v.takes == 0) back.1 in
    let seen = and_parts (v.see == 0) (length v.takes == 0) owed.1 in
    ap₂ (λ (xs ys : List Line). xs ++ ys) (looked-none (back_line v.peer) v.back back.0)
    (ap₂ (λ (xs ys : List Line). xs ++ ys) (ap (map (put_line v.peer)) (none_of v.owed owed.0))
    (ap₂ (λ (xs ys : List Line). xs ++ ys) (looked-none (see_line v.peer) v.see seen.0) (ap (map (taken_line v.peer)) (none_of v.takes seen.1))))

all_idle_lines : (vs : List Visit) → list_all is_idle vs ≡ true → flat_map visit_lines vs ≡ []
all_idle_lines [] e = refl
all_idle_lines (v ∷ vs) e =
    let parts = and_parts (is_idle v) (list_all is_idle vs) e in
    ap₂ (λ (xs ys : List Line). xs ++ ys) (idle_lines v parts.0) (all_idle_lines vs parts.1)

-- ---- entries

sum-turned : (f : Line → ℕ) → JoinsWeighNothing f → (lines : List Line) (vs : List Visit) (b : Bool) → list_all is_idle vs ≡ b → sum_by f (cond b (noted_idle lines) (lines ++ turn_line ∷ flat_map visit_lines vs)) ≡ sum_by f lines + sum_by f (turn_line ∷ flat_map visit_lines vs)
sum-turned f joins lines vs true e = omega (arith, sum-noted_idle f joins lines, sum_by-cons f turn_line (flat_map visit_lines vs), joins.turn, ap (sum_by f) (all_idle_lines vs e))
sum-turned f joins lines vs false e = sum_by-append f lines (turn_line ∷ flat_map visit_lines vs)

sum-noted : (f : Line → ℕ) → JoinsWeighNothing f → (lines : List Line) (e : PlainEntry) → sum_by f (noted lines e) ≡ sum_by f lines + sum_by f (entry_lines e)
sum-noted f joins lines (turned vs) = sum-turned f joins lines vs (list_all is_idle vs) refl
sum-noted f joins lines (put peer frame) = sum_by-append f lines (put_line peer frame ∷ [])
sum-noted f joins lines (again word) =
    omega (arith, sum-again f joins word lines (is_one_idle (slice_get lines (length lines - 1))) refl, sum_by-cons f (again_line word) [], joins.again word)
sum-noted f joins lines (waits number) = sum_by-append f lines (wait_line number ∷ [])
sum-noted f joins lines (called number answer) = sum_by-append f lines (call_line number answer ∷ [])

sum-noted_all : (f : Line → ℕ) (g : PlainEntry → ℕ) → JoinsWeighNothing f → (lines : List Line) (es : List PlainEntry) → AllByRecursion (λ e. g e ≡ sum_by f (entry_lines e)) es → sum_by f (noted_all lines es) ≡ sum_by f lines + sum_by g es
sum-noted_all f g joins lines [] agree = omega arith
sum-noted_all f g joins lines (e ∷ es) agree =
    omega (arith, agree.0, sum-noted_all f g joins (noted lines e) es agree.1, sum-noted f joins lines e, sum_by-cons g e es)

-- the weights of the lines of a journal are those of its entries, where what joins weighs nothing
pub sum-joined : (f : Line → ℕ) (g : PlainEntry → ℕ) → JoinsWeighNothing f → (es : List PlainEntry) → AllByRecursion (λ e. g e ≡ sum_by f (entry_lines e)) es → sum_by f (joined es) ≡ sum_by g es
sum-joined f g joins es agree = omega (arith, sum-noted_all f g joins [] es agree)
