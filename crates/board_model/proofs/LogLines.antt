-- The lines of a journal have the answers of its entries. Idle turns and tries, which are joined, have none.
use Rattle.std.proofs.Common.{◌≡◌, ℕ, ◌+◌, ◌-◌, ◌^◌, Bool, true, false, ◌&&◌, cond, ltb, List, [], ◌∷◌, ◌++◌, length, map, take, Option, Some, None, slice_get, refl, sym, ap, ◌∙◌, append_assoc, append-nil}
use Rattle.std.specs.Prelude.{slice_set, ◌==◌}
use Rattle.std.specs.List.{list_all, flat_map}
use Rattle.std.proofs.lemmas.Grind.{flat_map-append}
use Rattle.mc_base.specs.declared.refusal.Refusal.{Refusal}
use Rattle.board_model.specs.Words.{same_word}
use Rattle.board_model.specs.Journal.{PlainEntry, turned, put, again, waits, called, Visit, Line, idle_line, again_line, spin_line, turn_line, back_line, put_line, see_line, wait_line, call_line, is_idle, looked, taken_line, visit_lines, joinable, with_idle, noted_idle, spinning, with_spin, noted_spin, is_one_idle, noted, noted_all, joined}
use Rattle.board_model.specs.Logs.{answer_in, answers_in, answer_on, answers_on}
use Rattle.board_model.proofs.JournalJoins.{last_split, last_set}

pub answers-join : (xs ys : List Line) → answers_on (xs ++ ys) ≡ answers_on xs ++ answers_on ys
answers-join xs ys = flat_map-append answer_on xs ys

-- ---- lines without an answer

one_more : (ls : List Line) (l : Line) → answer_on l ≡ [] → answers_on (ls ++ l ∷ []) ≡ answers_on ls
one_more ls l none = answers-join ls (l ∷ []) ∙ ap (λ xs. answers_on ls ++ (xs ++ [])) none ∙ append-nil (answers_on ls)

-- another last line
other_last : (ls : List Line) (x y : Line) → slice_get ls (length ls - 1) ≡ Some x → answer_on x ≡ [] → answer_on y ≡ [] → answers_on (slice_set ls (length ls - 1) y) ≡ answers_on ls
other_last ls x y at no_x no_y =
    let front = take (length ls - 1) ls in
    ap answers_on (last_set ls x y at) ∙ one_more front y no_y ∙ sym (one_more front x no_x) ∙ ap answers_on (sym (last_split ls x at))

idle_by : (ls : List Line) (o : Option Line) → slice_get ls (length ls - 1) ≡ o → answers_on (with_idle (joinable o) ls) ≡ answers_on ls
idle_by ls (Some (idle_line n)) at = go (ltb n (2 ^ 64 - 1))
  where
    go : (b : Bool) → answers_on (with_idle (cond b (Some n) None) ls) ≡ answers_on ls
    go true = other_last ls (idle_line n) (idle_line (n + 1)) at refl refl
    go false = one_more ls (idle_line 1) refl
idle_by ls o at = one_more ls (idle_line 1) refl

spin_by : (word : Refusal) (ls : List Line) (o : Option Line) → slice_get ls (length ls - 1) ≡ o → answers_on (with_spin word (spinning word o) ls) ≡ answers_on ls
spin_by word ls (Some (spin_line n w)) at = go (same_word w word && ltb n (2 ^ 64 - 1))
  where
    go : (b : Bool) → answers_on (with_spin word (cond b (Some n) None) ls) ≡ answers_on ls
    go true = other_last ls (spin_line n w) (spin_line (n + 1) word) at refl refl
    go false = one_more ls (spin_line 1 word) refl
spin_by word ls o at = one_more ls (spin_line 1 word) refl

again_by : (word : Refusal) (ls : List Line) (o : Option Line) → slice_get ls (length ls - 1) ≡ o → answers_on (cond (is_one_idle o) (noted_spin word (take (length ls - 1) ls)) (ls ++ again_line word ∷ [])) ≡ answers_on ls
again_by word ls (Some (idle_line n)) at = go (n == 1)
  where
    go : (b : Bool) → answers_on (cond b (noted_spin word (take (length ls - 1) ls)) (ls ++ again_line word ∷ [])) ≡ answers_on ls
    go true =
        let front = take (length ls - 1) ls in
        spin_by word front (slice_get front (length front - 1)) refl ∙ sym (one_more front (idle_line n) refl) ∙ ap answers_on (sym (last_split ls (idle_line n) at))
    go false = one_more ls (again_line word) refl
again_by word ls o at = one_more ls (again_line word) refl

-- ---- the lines of a turn

both_none : (xs ys : List Line) → answers_on xs ≡ [] → answers_on ys ≡ [] → answers_on (xs ++ ys) ≡ []
both_none xs ys no_x no_y = answers-join xs ys ∙ ap (λ xs. xs ++ answers_on ys) no_x ∙ no_y

map_none : {A : Type 0} (f : A → Line) (xs : List A) → ((x : A) → answer_on (f x) ≡ []) → answers_on (map f xs) ≡ []
map_none f [] none = refl
map_none f (x ∷ xs) none = ap (λ ys. ys ++ answers_on (map f xs)) (none x) ∙ map_none f xs none

looked_none : (f : ℕ → Line) (n : ℕ) → answer_on (f n) ≡ [] → answers_on (looked f n) ≡ []
looked_none f n none = go (n == 0)
  where
    go : (b : Bool) → answers_on (cond b [] (f n ∷ [])) ≡ []
    go true = refl
    go false = one_more [] (f n) none

visit_none : (v : Visit) → answers_on (visit_lines v) ≡ []
visit_none v =
    let takes = map (taken_line v.peer) v.takes in
    let sees = looked (see_line v.peer) v.see in
    let puts = map (put_line v.peer) v.owed in
    both_none (looked (back_line v.peer) v.back) (puts ++ (sees ++ takes)) (looked_none (back_line v.peer) v.back refl)
    (both_none puts (sees ++ takes) (map_none (put_line v.peer) v.owed (λ f. refl))
    (both_none sees takes (looked_none (see_line v.peer) v.see refl) (map_none (taken_line v.peer) v.takes (λ t. refl))))

visits_none : (vs : List Visit) → answers_on (flat_map visit_lines vs) ≡ []
visits_none [] = refl
visits_none (v ∷ vs) = both_none (visit_lines v) (flat_map visit_lines vs) (visit_none v) (visits_none vs)

-- ---- an entry more

turn_by : (ls : List Line) (vs : List Visit) (b : Bool) → answers_on (cond b (noted_idle ls) (ls ++ turn_line ∷ flat_map visit_lines vs)) ≡ answers_on ls
turn_by ls vs true = idle_by ls (slice_get ls (length ls - 1)) refl
turn_by ls vs false = answers-join ls (turn_line ∷ flat_map visit_lines vs) ∙ ap (λ xs. answers_on ls ++ xs) (visits_none vs) ∙ append-nil (answers_on ls)

pub answers-noted : (ls : List Line) (e : PlainEntry) → answers_on (noted ls e) ≡ answers_on ls ++ answer_in e
answers-noted ls (turned vs) = turn_by ls vs (list_all is_idle vs) ∙ sym (append-nil (answers_on ls))
answers-noted ls (put p f) = one_more ls (put_line p f) refl ∙ sym (append-nil (answers_on ls))
answers-noted ls (again word) = again_by word ls (slice_get ls (length ls - 1)) refl ∙ sym (append-nil (answers_on ls))
answers-noted ls (waits k) = one_more ls (wait_line k) refl ∙ sym (append-nil (answers_on ls))
answers-noted ls (called k a) = answers-join ls (call_line k a ∷ [])

pub answers-all : (ls : List Line) (es : List PlainEntry) → answers_on (noted_all ls es) ≡ answers_on ls ++ answers_in es
answers-all ls [] = sym (append-nil (answers_on ls))
answers-all ls (e ∷ es) = answers-all (noted ls e) es ∙ ap (λ xs. xs ++ answers_in es) (answers-noted ls e) ∙ append_assoc (answers_on ls) (answer_in e) (answers_in es)

pub lines_keep_answers : (es : List PlainEntry) → answers_on (joined es) ≡ answers_in es
lines_keep_answers es = answers-all [] es
