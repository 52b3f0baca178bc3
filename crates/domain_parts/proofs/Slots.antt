-- The slots that wait or were handed: how often each stands among them.
use Rattle.std.proofs.Common.{◌≡◌, ℕ, ◌+◌, Bool, true, List, [], ◌∷◌, ◌++◌, length, map, Option, refl, sym, ap, ◌∙◌, arith, length-append}
use Rattle.std.specs.Prelude.{count_by, not, ◌==◌}
use Rattle.std.proofs.lemmas.List.{length-map}
use Rattle.mc_base.specs.declared.request.Slot.{Slot}
use Rattle.board_model.proofs.ListsCounts.{count-append, count-cons, count-every}
use Rattle.board_model.proofs.MessageVisitLines.{count-map}
use Rattle.buffer_book.specs.Book.{Book}
use Rattle.message_queue.specs.Queue.{Waiting}
use Rattle.domain_parts.specs.InBook.{Whole, priority_in}
use Rattle.domain_parts.specs.InPlaces.{is_misplaced, is_same, one_if, times_in, times_waiting}
use Rattle.domain_parts.proofs.Books.{Others, differ-back}
use Rattle.domain_parts.proofs.Placed.{HasMore, HaveSame, no-one}

abbrev pub slots : List Waiting → List Slot
slots ws = map (λ (w : Waiting). w.slot) ws

-- how many of them pass a test: of the slots of open parts, of what waits, and of what was handed
pub count-all : (test : Slot → Bool) (os : List Slot) (ws : List Waiting) (hs : List Slot) → count_by test (os ++ (slots ws ++ hs)) ≡ count_by test os + (count_by (λ (w : Waiting). test w.slot) ws + count_by test hs)
count-all test os ws hs = count-append test os (slots ws ++ hs) ∙ ap (λ (k : ℕ). count_by test os + k) (count-append test (slots ws) hs ∙ ap (λ (k : ℕ). k + count_by test hs) (count-map test (λ (w : Waiting). w.slot) ws))

pub times-all : (s : Slot) (os : List Slot) (ws : List Waiting) (hs : List Slot) → times_in s (os ++ (slots ws ++ hs)) ≡ times_in s os + (times_waiting s ws + times_in s hs)
times-all s os ws hs = count-all (λ (t : Slot). is_same t s) os ws hs

pub length-all : (os : List Slot) (ws : List Waiting) (hs : List Slot) → length (os ++ (slots ws ++ hs)) ≡ length os + (length ws + length hs)
length-all os ws hs = length-append os (slots ws ++ hs) ∙ ap (λ (k : ℕ). length os + k) (length-append (slots ws) hs ∙ ap (λ (k : ℕ). k + length hs) (length-map ws (λ (w : Waiting). w.slot)))

-- one more waits, or was handed, or is open
pub waiting-has : (w : Waiting) (os : List Slot) (ws vs : List Waiting) (hs : List Slot) → ((test : Waiting → Bool) → count_by test vs ≡ count_by test ws + one_if (test w)) → HasMore w.slot (os ++ (slots ws ++ hs)) (os ++ (slots vs ++ hs))
waiting-has w os ws vs hs more test = let m = more (λ (x : Waiting). test x.slot) in omega (arith, m, count-all test os ws hs, count-all test os vs hs)

pub handed-has : (s : Slot) (os : List Slot) (ws : List Waiting) (hs gs : List Slot) → HasMore s hs gs → HasMore s (os ++ (slots ws ++ hs)) (os ++ (slots ws ++ gs))
handed-has s os ws hs gs more test = let m = more test in omega (arith, m, count-all test os ws hs, count-all test os ws gs)

pub handed-same : (os : List Slot) (ws : List Waiting) (hs gs : List Slot) → HaveSame hs gs → HaveSame (os ++ (slots ws ++ hs)) (os ++ (slots ws ++ gs))
handed-same os ws hs gs same test = let m = same test in omega (arith, m, count-all test os ws hs, count-all test os ws gs)

pub open-has : (s : Slot) (os vs : List Slot) (ws : List Waiting) (hs : List Slot) → HasMore s os vs → HasMore s (os ++ (slots ws ++ hs)) (vs ++ (slots ws ++ hs))
open-has s os vs ws hs more test = let m = more test in omega (arith, m, count-all test os ws hs, count-all test vs ws hs)

-- as many as all
pub length-more : (s : Slot) (ss ts : List Slot) → HasMore s ss ts → length ts ≡ length ss + 1
length-more s ss ts more = let m = more (λ (x : Slot). true) in omega (arith, m, count-every ss, count-every ts)

pub length-same : (ss ts : List Slot) → HaveSame ss ts → length ts ≡ length ss
length-same ss ts same = sym (count-every ts) ∙ same (λ (x : Slot). true) ∙ count-every ss

-- what waits in other slots than the one that changed has the priority that it had
pub misplaced-stay : (b b' : Book) (s : Slot) → Others b b' s → (ws : List Waiting) → times_waiting s ws ≡ 0 → count_by (is_misplaced b') ws ≡ count_by (is_misplaced b) ws
misplaced-stay b b' s others [] none = refl
misplaced-stay b b' s others (w ∷ ws) none =
    let sum = count-cons (λ (x : Waiting). is_same x.slot s) w ws in
    let here : one_if (is_same w.slot s) ≡ 0 = omega (arith, sum, none) in
    let rest : times_waiting s ws ≡ 0 = omega (arith, sum, none) in
    let differ = differ-back w.slot s (no-one (is_same w.slot s) here) in
    let same : is_misplaced b' w ≡ is_misplaced b w = ap (λ (o : Option Whole). not (w.priority == priority_in o)) (others w.slot differ) in
    count-cons (is_misplaced b') w ws
    ∙ ap (λ (x : Bool). one_if x + count_by (is_misplaced b') ws) same
    ∙ ap (λ (n : ℕ). one_if (is_misplaced b w) + n) (misplaced-stay b b' s others ws rest)
    ∙ sym (count-cons (is_misplaced b) w ws)
