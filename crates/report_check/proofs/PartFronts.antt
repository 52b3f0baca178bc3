-- The parts of a journal, read from the front: the lines under a line, and the last puts among them, which the line behind them claims.
use Rattle.std.proofs.Common.{◌≡◌, ℕ, zero, suc, ◌+◌, ◌-◌, ◌≤◌, Bool, true, false, cond, List, [], ◌∷◌, ◌++◌, length, take, drop, map, Option, None, Some, refl, sym, ap, ap₂, ◌∙◌, arith}
use Rattle.std.specs.Prelude.{min, nat_lt, ◌&&◌, ◌==◌, slice_get, unwrap_or}
use Rattle.std.specs.List.{AllByRecursion}
use Rattle.std.proofs.lemmas.List.{length-map}
use Rattle.std.proofs.lemmas.Bool.Decides.{nat_tests}
use Rattle.board_model.specs.declared.scenario.CallLine.{CallLine}
use Rattle.board_model.specs.Journal.{PlainAnswer, refuses, agrees, tells, connects, gives, completes, Line, idle_line, again_line, spin_line, turn_line, back_line, put_line, see_line, take_line, wait_line, call_line}
use Rattle.board_model.specs.JournalParts.{Part, turn_of, call_of}
use Rattle.board_model.specs.Unjoined.{visit_in, frames_put, line_numbered, puts_by, puts_of}
use Rattle.board_model.specs.declared.scenario.Call.{Call}
use Rattle.mc_base.specs.declared.refusal.Refusal.{Refusal}
use Rattle.report_text.specs.JournalOrder.{puts_numbered, puts_of_line}
use Rattle.report_text.specs.TextPass.{puts_of_script}
use Rattle.report_text.specs.Outlines.{is_refusal, outline_of}
use Rattle.report_text.specs.TurnOrder.{is_under, is_put, puts_last, own_count}
use Rattle.report_text.specs.JournalRead.{Parts, under_part, with_put, parts_with, parts_from, parts_in}

-- ---- puts at the end of lines

abbrev pub puts_line : Line → Bool
puts_line l = is_put (outline_of l)

abbrev pub all_put : List Line → Bool
all_put [] = true
all_put (l ∷ ls) = puts_line l && all_put ls

abbrev pub put_last : List Line → ℕ
put_last ls = puts_last 0 (map outline_of ls)

pub last-all : (n : ℕ) (ls : List Line) → all_put ls ≡ true → puts_last n (map outline_of ls) ≡ n + length ls
last-all n [] e = omega arith
last-all n (l ∷ ls) e = go (puts_line l) e (last-all (n + 1) ls)
  where
    go : (b : Bool) → (b && all_put ls) ≡ true → (all_put ls ≡ true → puts_last (n + 1) (map outline_of ls) ≡ n + 1 + length ls) → puts_last (cond b (n + 1) 0) (map outline_of ls) ≡ n + length (l ∷ ls)
    go true e rest = let more : n + 1 + length ls ≡ n + length (l ∷ ls) = omega arith in rest e ∙ more
    go false e rest = absurd cc

pub last-any : (n m : ℕ) (ls : List Line) → all_put ls ≡ false → puts_last n (map outline_of ls) ≡ puts_last m (map outline_of ls)
last-any n m [] e = absurd cc
last-any n m (l ∷ ls) e = go (puts_line l) e (last-any (n + 1) (m + 1) ls)
  where
    go : (b : Bool) → (b && all_put ls) ≡ false → (all_put ls ≡ false → puts_last (n + 1) (map outline_of ls) ≡ puts_last (m + 1) (map outline_of ls)) → puts_last (cond b (n + 1) 0) (map outline_of ls) ≡ puts_last (cond b (m + 1) 0) (map outline_of ls)
    go true e rest = rest e
    go false e rest = refl

pub last-few : (n : ℕ) (ls : List Line) → puts_last n (map outline_of ls) ≤ n + length ls
last-few n [] = omega arith
last-few n (l ∷ ls) = go (puts_line l) (last-few (n + 1) ls) (last-few 0 ls)
  where
    go : (b : Bool) → puts_last (n + 1) (map outline_of ls) ≤ n + 1 + length ls → puts_last 0 (map outline_of ls) ≤ 0 + length ls → puts_last (cond b (n + 1) 0) (map outline_of ls) ≤ n + length (l ∷ ls)
    go true more few = omega (arith, more)
    go false more few = omega (arith, few)

-- ---- lines under a line, before others

abbrev pub with_line_put : Line → List Part → List Part
with_line_put (put_line p frame) ps = with_put p frame ps
with_line_put other ps = ps

abbrev pub with_puts : List Line → List Part → List Part
with_puts [] ps = ps
with_puts (l ∷ ls) ps = with_line_put l (with_puts ls ps)

-- the lines that are a turn's own, where the line behind them claims so many puts
abbrev pub own_lines : ℕ → List Line → ℕ
own_lines due ls = length ls - min due (put_last ls)

abbrev pub front : ℕ → List Line → List Part → Parts
front due ls ps = record { due = cond (all_put ls) (due - length ls) 0; behind = take (own_lines due ls) ls; parts = with_puts (drop (own_lines due ls) ls) ps }

abbrev pub AreUnder : List Line → Type 0
AreUnder ls = AllByRecursion (λ l. is_under (outline_of l) ≡ true) ls

abbrev claims : Line → Parts → Parts
claims l t = record { due = t.due - 1; behind = t.behind; parts = with_line_put l t.parts }

step : (peers : List ℕ) (script : List CallLine) (l : Line) (t : Parts) → is_under (outline_of l) ≡ true → parts_with peers script l t ≡ cond (puts_line l && nat_lt 0 t.due) (claims l t) (under_part l t)
step peers script (idle_line n) t e = absurd cc
step peers script (again_line word) t e = absurd cc
step peers script (spin_line n word) t e = absurd cc
step peers script turn_line t e = absurd cc
step peers script (back_line p n) t e = refl
step peers script (put_line p frame) t e = refl
step peers script (see_line p n) t e = refl
step peers script (take_line p frame fate) t e = refl
step peers script (wait_line k) t e = absurd cc
step peers script (call_line k a) t e = absurd cc

abbrev split_at : ℕ → ℕ → List Line → List Part → Parts
split_at due n ls ps = record { due = due; behind = take n ls; parts = with_puts (drop n ls) ps }

same-split : (d e m n : ℕ) (ls : List Line) (ps : List Part) → d ≡ e → m ≡ n → split_at d m ls ps ≡ split_at e n ls ps
same-split d e m n ls ps due own = ap₂ (λ (i j : ℕ). split_at i j ls ps) due own

front-step : (due : ℕ) (l : Line) (ls : List Line) (ps : List Part) → cond (puts_line l && nat_lt 0 (front due ls ps).due) (claims l (front due ls ps)) (under_part l (front due ls ps)) ≡ front due (l ∷ ls) ps
front-step due l ls ps = go (puts_line l) (all_put ls) refl refl
  where
    other : (b : Bool) → puts_line l ≡ b → puts_last (cond b (0 + 1) 0) (map outline_of ls) ≡ put_last ls → cond (b && all_put ls) (due - length (l ∷ ls)) 0 ≡ 0 → under_part l (front due ls ps) ≡ front due (l ∷ ls) ps
    other b is last none =
        let few : put_last ls ≤ 0 + length ls = last-few 0 ls in
        let whole : put_last (l ∷ ls) ≡ put_last ls = ap (λ c. puts_last (cond c (0 + 1) 0) (map outline_of ls)) is ∙ last in
        let own : suc (length ls - min due (put_last ls)) ≡ length (l ∷ ls) - min due (put_last (l ∷ ls)) = omega (arith, few, whole) in
        same-split 0 (cond (puts_line l && all_put ls) (due - length (l ∷ ls)) 0) (suc (own_lines due ls)) (own_lines due (l ∷ ls)) (l ∷ ls) ps (sym (ap (λ c. cond (c && all_put ls) (due - length (l ∷ ls)) 0) is ∙ none)) own

    claimed : (c : Bool) → nat_lt 0 (due - length ls) ≡ c → puts_line l ≡ true → all_put ls ≡ true → cond c (claims l (split_at (due - length ls) (own_lines due ls) ls ps)) (under_part l (split_at (due - length ls) (own_lines due ls) ls ps)) ≡ split_at (due - length (l ∷ ls)) (own_lines due (l ∷ ls)) (l ∷ ls) ps
    claimed true some is all =
        let last : put_last ls ≡ 0 + length ls = last-all 0 ls all in
        let whole : put_last (l ∷ ls) ≡ 0 + length (l ∷ ls) = last-all 0 (l ∷ ls) (ap (λ c. c && all_put ls) is ∙ all) in
        let none : own_lines due ls ≡ 0 = grind (arith, nat_tests) in
        let none-more : own_lines due (l ∷ ls) ≡ 0 = grind (arith, nat_tests) in
        let less : due - length ls - 1 ≡ due - length (l ∷ ls) = omega arith in
        ap (λ (n : ℕ). claims l (split_at (due - length ls) n ls ps)) none ∙ same-split (due - length ls - 1) (due - length (l ∷ ls)) 0 (own_lines due (l ∷ ls)) (l ∷ ls) ps less (sym none-more)
    claimed false none is all =
        let last : put_last ls ≡ 0 + length ls = last-all 0 ls all in
        let whole : put_last (l ∷ ls) ≡ 0 + length (l ∷ ls) = last-all 0 (l ∷ ls) (ap (λ c. c && all_put ls) is ∙ all) in
        let own : suc (own_lines due ls) ≡ own_lines due (l ∷ ls) = grind (arith, nat_tests) in
        let gone : 0 ≡ due - length (l ∷ ls) = grind (arith, nat_tests) in
        same-split 0 (due - length (l ∷ ls)) (suc (own_lines due ls)) (own_lines due (l ∷ ls)) (l ∷ ls) ps gone own

    go : (b a : Bool) → puts_line l ≡ b → all_put ls ≡ a → cond (puts_line l && nat_lt 0 (front due ls ps).due) (claims l (front due ls ps)) (under_part l (front due ls ps)) ≡ front due (l ∷ ls) ps
    go false a is all = ap (λ c. cond (c && nat_lt 0 (front due ls ps).due) (claims l (front due ls ps)) (under_part l (front due ls ps))) is ∙ other false is refl refl
    go true false is all =
        ap (λ c. cond (c && nat_lt 0 (front due ls ps).due) (claims l (front due ls ps)) (under_part l (front due ls ps))) is
        ∙ (ap (λ a. cond (nat_lt 0 (cond a (due - length ls) 0)) (claims l (front due ls ps)) (under_part l (front due ls ps))) all
        ∙ other true is (last-any (0 + 1) 0 ls all) (ap (λ a. cond a (due - length (l ∷ ls)) 0) all))
    go true true is all =
        ap₂ (λ (c a : Bool). cond (c && nat_lt 0 (cond a (due - length ls) 0)) (claims l (split_at (cond a (due - length ls) 0) (own_lines due ls) ls ps)) (under_part l (split_at (cond a (due - length ls) 0) (own_lines due ls) ls ps))) is all
        ∙ (claimed (nat_lt 0 (due - length ls)) refl is all
        ∙ sym (ap₂ (λ (c a : Bool). split_at (cond (c && a) (due - length (l ∷ ls)) 0) (own_lines due (l ∷ ls)) (l ∷ ls) ps) is all))

-- lines under a line, before those that begin with another
pub parts_front : (peers : List ℕ) (script : List CallLine) (ls ms : List Line) → AreUnder ls → (parts_from peers script ms).behind ≡ [] → parts_from peers script (ls ++ ms) ≡ front (parts_from peers script ms).due ls (parts_from peers script ms).parts
parts_front peers script [] ms under none =
    let t = parts_from peers script ms in
    let due : t.due ≡ t.due - 0 = omega arith in
    let own : 0 ≡ 0 - min t.due 0 = omega arith in
    ap₂ (λ (n : ℕ) (b : List Line). record t { due = n; behind = b }) due none ∙ same-split (t.due - 0) (t.due - 0) 0 (0 - min t.due 0) [] t.parts refl own
parts_front peers script (l ∷ ls) ms under none =
    let t = parts_from peers script ms in
    ap (parts_with peers script l) (parts_front peers script ls ms under.1 none)
    ∙ (step peers script l (front t.due ls t.parts) under.0 ∙ front-step t.due l ls t.parts)

-- ---- the first part

-- as many as by the outlines of the lines
pub own_same : (due : ℕ) (ls : List Line) → own_count due (map outline_of ls) ≡ own_lines due ls
own_same due ls = ap (λ n. n - min due (put_last ls)) (length-map ls outline_of)

-- no lines of a turn are left before a line that stands under none
pub head_behind : (peers : List ℕ) (script : List CallLine) (l : Line) (ls : List Line) → is_under (outline_of l) ≡ false → (parts_from peers script (l ∷ ls)).behind ≡ []
head_behind peers script (idle_line n) ls e = refl
head_behind peers script (again_line word) ls e = refl
head_behind peers script (spin_line n word) ls e = refl
head_behind peers script turn_line ls e = refl
head_behind peers script (back_line p n) ls e = absurd cc
head_behind peers script (put_line p frame) ls e = absurd cc
head_behind peers script (see_line p n) ls e = absurd cc
head_behind peers script (take_line p frame fate) ls e = absurd cc
head_behind peers script (wait_line k) ls e = refl
head_behind peers script (call_line k a) ls e = refl

-- a turn has the first of the lines under it
pub turn_front : (peers : List ℕ) (script : List CallLine) (ls ms : List Line) → AreUnder ls → (parts_from peers script ms).behind ≡ [] → parts_in peers script (turn_line ∷ (ls ++ ms)) ≡ turn_of (map (visit_in (take (own_lines (parts_from peers script ms).due ls) ls)) peers) ∷ with_puts (drop (own_lines (parts_from peers script ms).due ls) ls) (parts_in peers script ms)
turn_front peers script ls ms under none = ap (λ (t : Parts). turn_of (map (visit_in t.behind) peers) ∷ t.parts) (parts_front peers script ls ms under none)

-- and a call has those that are left
abbrev pub puts_in : List Line → List (ℕ × List ℕ)
puts_in [] = []
puts_in (put_line p frame ∷ ls) = (p, frame) ∷ puts_in ls
puts_in (l ∷ ls) = puts_in ls

pub call_front : (ls : List Line) (ps : List (ℕ × List ℕ)) (k : ℕ) (a : PlainAnswer) (parts : List Part) → with_puts ls (call_of ps k a ∷ parts) ≡ call_of (puts_in ls ++ ps) k a ∷ parts
call_front [] ps k a parts = refl
call_front (idle_line n ∷ ls) ps k a parts = call_front ls ps k a parts
call_front (again_line word ∷ ls) ps k a parts = call_front ls ps k a parts
call_front (spin_line n word ∷ ls) ps k a parts = call_front ls ps k a parts
call_front (turn_line ∷ ls) ps k a parts = call_front ls ps k a parts
call_front (back_line p n ∷ ls) ps k a parts = call_front ls ps k a parts
call_front (put_line p frame ∷ ls) ps k a parts = ap (with_put p frame) (call_front ls ps k a parts)
call_front (see_line p n ∷ ls) ps k a parts = call_front ls ps k a parts
call_front (take_line p frame fate ∷ ls) ps k a parts = call_front ls ps k a parts
call_front (wait_line j ∷ ls) ps k a parts = call_front ls ps k a parts
call_front (call_line j b ∷ ls) ps k a parts = call_front ls ps k a parts

-- ---- how many puts a line claims, by its outline

put-at : (script : List CallLine) (i : ℕ) (a : PlainAnswer) → ((call : Call) → puts_by call a ≡ frames_put call) → puts_of (slice_get script i) a ≡ unwrap_or (slice_get (puts_of_script script) i) 0
put-at [] i a h = refl
put-at (c ∷ cs) zero a h = h c.call
put-at (c ∷ cs) (suc i) a h = put-at cs i a h

put-numbered : (script : List CallLine) (k : ℕ) (a : PlainAnswer) → ((call : Call) → puts_by call a ≡ frames_put call) → puts_of (line_numbered script k) a ≡ puts_numbered (puts_of_script script) k
put-numbered script zero a h = refl
put-numbered script (suc i) a h =
    let some : (suc i == 0) ≡ false = grind (arith, nat_tests) in
    let less : suc i - 1 ≡ i = omega arith in
    put-at script i a h
    ∙ sym (ap (λ b. cond b 0 (unwrap_or (slice_get (puts_of_script script) (suc i - 1)) 0)) some ∙ ap (λ j. unwrap_or (slice_get (puts_of_script script) j) 0) less)

none-put : (o : Option CallLine) (word : Refusal) → puts_of o (refuses word) ≡ 0
none-put None word = refl
none-put (Some line) word = refl

call-due : (script : List CallLine) (k : ℕ) (a : PlainAnswer) → puts_of (line_numbered script k) a ≡ cond (is_refusal a) 0 (puts_numbered (puts_of_script script) k)
call-due script k (refuses word) = none-put (line_numbered script k) word
call-due script k agrees = put-numbered script k agrees (λ c. refl)
call-due script k (tells n) = put-numbered script k (tells n) (λ c. refl)
call-due script k (connects n m) = put-numbered script k (connects n m) (λ c. refl)
call-due script k (gives n bytes) = put-numbered script k (gives n bytes) (λ c. refl)
call-due script k (completes place result) = put-numbered script k (completes place result) (λ c. refl)

pub head_due : (peers : List ℕ) (script : List CallLine) (l : Line) (ls : List Line) → is_under (outline_of l) ≡ false → (parts_from peers script (l ∷ ls)).due ≡ puts_of_line (puts_of_script script) (outline_of l)
head_due peers script (idle_line n) ls e = refl
head_due peers script (again_line word) ls e = refl
head_due peers script (spin_line n word) ls e = refl
head_due peers script turn_line ls e = refl
head_due peers script (back_line p n) ls e = absurd cc
head_due peers script (put_line p frame) ls e = absurd cc
head_due peers script (see_line p n) ls e = absurd cc
head_due peers script (take_line p frame fate) ls e = absurd cc
head_due peers script (wait_line k) ls e = refl
head_due peers script (call_line k a) ls e = call-due script k a
