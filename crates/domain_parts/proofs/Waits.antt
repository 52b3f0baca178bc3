-- What waits at endpoints: how much, and what the book of buffers says of it.
use Rattle.std.proofs.Common.{◌≡◌, ℕ, zero, suc, ◌+◌, ◌<◌, ◌≤◌, Bool, true, cond, List, [], ◌∷◌, ◌++◌, length, map, Option, Some, None, refl, sym, ap, ◌∙◌, arith, length-append}
use Rattle.std.specs.Prelude.{count_by, is_none, option_map, option_to_list, slice_get, sum_by}
use Rattle.std.proofs.lemmas.Bool.{cond_both}
use Rattle.std.proofs.lemmas.List.{length-map, map-append, map_push}
use Rattle.std.proofs.lemmas.List.Sums.{sum_by-cons, sum_by_push}
use Rattle.board_model.specs.Lists.{changed_at}
use Rattle.board_model.specs.State as state
use Rattle.board_model.specs.State.{Item, is_from, queue_in}
use Rattle.board_model.specs.Choice.{best, without_best}
use Rattle.domain_parts.specs.PlacedFrames.{queued_last}
use Rattle.domain_parts.specs.PlacedCalls.{received}
use Rattle.board_model.proofs.ListsCounts.{count-append, count-cons, count-every}
use Rattle.board_model.proofs.MessageVisitLines.{count-map}
use Rattle.board_model.proofs.MessageBest.{best-map, count-best, without_best-map}
use Rattle.mc_base.specs.declared.request.Slot.{Slot}
use Rattle.buffer_book.specs.Book.{Book}
use Rattle.message_queue.specs.Queue.{Waiting}
use Rattle.packet_channel.specs.End.{end_of}
use Rattle.packet_channel.specs.declared.channel.Channel.{Channel}
use Rattle.domain_parts.specs.declared.endpoints.Endpoint.{Endpoint}
use Rattle.board_model.specs.Queues.{messages_at}
use Rattle.domain_parts.specs.Hearing.{messages_waiting}
use Rattle.domain_parts.specs.Table.{items_in}
use Rattle.domain_parts.specs.Records.{all_waiting, waiting_in, with_best_taken, with_waiting}
use Rattle.domain_parts.specs.InBook.{Whole, endpoint_in, endpoints_in, item_in, item_read}
use Rattle.domain_parts.specs.InPlaces.{is_of, is_same, one_if, times_waiting}
use Rattle.domain_parts.proofs.Books.{Others, differ-back}
use Rattle.domain_parts.proofs.Placed.{no-one}

-- ---- how much waits

pub waiting-more : (test : Waiting → Bool) (w : Waiting) (es : List Endpoint) (i : ℕ) → i < length es → count_by test (all_waiting (changed_at (with_waiting w) i es)) ≡ count_by test (all_waiting es) + one_if (test w)
waiting-more test w [] i lt = absurd (omega arith)
waiting-more test w (e ∷ es) zero lt =
    omega (arith, count-append test (e.queue.waiting ++ w ∷ []) (all_waiting es), count-append test e.queue.waiting (all_waiting es), sum_by_push (λ (x : Waiting). cond (test x) 1 0) e.queue.waiting w)
waiting-more test w (e ∷ es) (suc i) lt =
    omega (arith, waiting-more test w es i (omega arith), count-append test e.queue.waiting (all_waiting (changed_at (with_waiting w) i es)), count-append test e.queue.waiting (all_waiting es))

best-one : (test : Waiting → Bool) (w : Waiting) (q : List Waiting) → best (λ (x : Waiting). x.priority) q ≡ Some w → count_by test (without_best (λ (x : Waiting). x.priority) q) + one_if (test w) ≡ count_by test q
best-one test w q is =
    let all = count-best test (λ (x : Waiting). x.priority) q in
    let one : count_by test (option_to_list (best (λ (x : Waiting). x.priority) q)) ≡ one_if (test w) + count_by test [] = ap (λ (o : Option Waiting). count_by test (option_to_list o)) is ∙ count-cons test w [] in
    omega (arith, all, one)

pub waiting-less : (test : Waiting → Bool) (w : Waiting) (es : List Endpoint) (i : ℕ) → best (λ (x : Waiting). x.priority) (waiting_in (slice_get es i)) ≡ Some w → count_by test (all_waiting (changed_at with_best_taken i es)) + one_if (test w) ≡ count_by test (all_waiting es)
waiting-less test w [] i is = absurd cc
waiting-less test w (e ∷ es) zero is =
    omega (arith, best-one test w e.queue.waiting is, count-append test (without_best (λ (x : Waiting). x.priority) e.queue.waiting) (all_waiting es), count-append test e.queue.waiting (all_waiting es))
waiting-less test w (e ∷ es) (suc i) is =
    omega (arith, waiting-less test w es i is, count-append test e.queue.waiting (all_waiting (changed_at with_best_taken i es)), count-append test e.queue.waiting (all_waiting es))

pub length-more : (w : Waiting) (es : List Endpoint) (i : ℕ) → i < length es → length (all_waiting (changed_at (with_waiting w) i es)) ≡ length (all_waiting es) + 1
length-more w es i lt = sym (count-every (all_waiting (changed_at (with_waiting w) i es))) ∙ waiting-more (λ (x : Waiting). true) w es i lt ∙ ap (λ (n : ℕ). n + 1) (count-every (all_waiting es))

-- a new endpoint has nothing
pub waiting-new : (es : List Endpoint) (e : Endpoint) → e.queue.waiting ≡ [] → all_waiting (es ++ e ∷ []) ≡ all_waiting es
waiting-new [] e none = ap (λ (ws : List Waiting). ws ++ []) none
waiting-new (x ∷ es) e none = ap (λ (ws : List Waiting). x.queue.waiting ++ ws) (waiting-new es e none)

-- what waits at one endpoint is no more than all
pub waiting-within : (es : List Endpoint) (i : ℕ) → length (waiting_in (slice_get es i)) ≤ length (all_waiting es)
waiting-within [] i = omega arith
waiting-within (e ∷ es) zero = omega (arith, length-append e.queue.waiting (all_waiting es))
waiting-within (e ∷ es) (suc i) = omega (arith, waiting-within es i, length-append e.queue.waiting (all_waiting es))

-- the messages among it are no more
messages-few : (e : Endpoint) → messages_waiting e ≤ length e.queue.waiting
messages-few e = cond_both (is_none e.channel) (length e.queue.waiting) 0 (λ n. n ≤ length e.queue.waiting) (λ k. omega arith) (λ k. omega arith)

pub messages-within : (es : List Endpoint) → sum_by messages_waiting es ≤ length (all_waiting es)
messages-within [] = omega arith
messages-within (e ∷ es) = omega (arith, sum_by-cons messages_waiting e es, messages-few e, messages-within es, length-append e.queue.waiting (all_waiting es))

-- ---- what waits, by the book

-- what waits in other slots than the one that changed
items-stay : (b b' : Book) (s : Slot) → Others b b' s → (ws : List Waiting) → times_waiting s ws ≡ 0 → map (item_in b') ws ≡ map (item_in b) ws
items-stay b b' s others [] none = refl
items-stay b b' s others (w ∷ ws) none =
    let sum = count-cons (λ (x : Waiting). is_same x.slot s) w ws in
    let here : one_if (is_same w.slot s) ≡ 0 = omega (arith, sum, none) in
    let rest : times_waiting s ws ≡ 0 = omega (arith, sum, none) in
    let differ = differ-back w.slot s (no-one (is_same w.slot s) here) in
    ap (λ (o : Option Whole). item_read o w.slot w.priority ∷ map (item_in b') ws) (others w.slot differ) ∙ ap (λ (xs : List Item). item_in b w ∷ xs) (items-stay b b' s others ws rest)

pub endpoints-stay : (b b' : Book) (s : Slot) → Others b b' s → (es : List Endpoint) → times_waiting s (all_waiting es) ≡ 0 → endpoints_in b' es ≡ endpoints_in b es
endpoints-stay b b' s others [] none = refl
endpoints-stay b b' s others (e ∷ es) none =
    let sum = count-append (λ (x : Waiting). is_same x.slot s) e.queue.waiting (all_waiting es) in
    let here : times_waiting s e.queue.waiting ≡ 0 = omega (arith, sum, none) in
    let rest : times_waiting s (all_waiting es) ≡ 0 = omega (arith, sum, none) in
    ap (λ (q : List Item). record (endpoint_in b e) { queue = q } ∷ endpoints_in b' es) (items-stay b b' s others e.queue.waiting here)
    ∙ ap (λ (xs : List state.Endpoint). endpoint_in b e ∷ xs) (endpoints-stay b b' s others es rest)

-- an item more, last at a place
pub endpoints-more : (b : Book) (w : Waiting) (es : List Endpoint) (i : ℕ) → endpoints_in b (changed_at (with_waiting w) i es) ≡ changed_at (queued_last (item_in b w)) i (endpoints_in b es)
endpoints-more b w [] i = refl
endpoints-more b w (e ∷ es) zero = ap (λ (q : List Item). record (endpoint_in b e) { queue = q } ∷ endpoints_in b es) (map_push (item_in b) e.queue.waiting w)
endpoints-more b w (e ∷ es) (suc i) = ap (λ (xs : List state.Endpoint). endpoint_in b e ∷ xs) (endpoints-more b w es i)

-- the item that is received is gone
pub endpoints-less : (b : Book) (es : List Endpoint) (i : ℕ) → endpoints_in b (changed_at with_best_taken i es) ≡ changed_at received i (endpoints_in b es)
endpoints-less b [] i = refl
endpoints-less b (e ∷ es) zero = ap (λ (q : List Item). record (endpoint_in b e) { queue = q } ∷ endpoints_in b es) (sym (without_best-map (item_in b) (λ (w : Waiting). w.priority) (λ (x : Item). x.priority) (λ w. refl) e.queue.waiting))
endpoints-less b (e ∷ es) (suc i) = ap (λ (xs : List state.Endpoint). endpoint_in b e ∷ xs) (endpoints-less b es i)

pub queue-there : (b : Book) (es : List Endpoint) (i : ℕ) → queue_in (slice_get (endpoints_in b es) i) ≡ map (item_in b) (waiting_in (slice_get es i))
queue-there b [] i = refl
queue-there b (e ∷ es) zero = refl
queue-there b (e ∷ es) (suc i) = queue-there b es i

-- the item that is received
pub best-there : (b : Book) (es : List Endpoint) (i : ℕ) (w : Waiting) → best (λ (x : Waiting). x.priority) (waiting_in (slice_get es i)) ≡ Some w → best (λ (x : Item). x.priority) (queue_in (slice_get (endpoints_in b es) i)) ≡ Some (item_in b w)
best-there b es i w is =
    ap (best (λ (x : Item). x.priority)) (queue-there b es i)
    ∙ best-map (item_in b) (λ (x : Waiting). x.priority) (λ (x : Item). x.priority) (λ x. refl) (waiting_in (slice_get es i))
    ∙ ap (λ (o : Option Waiting). option_map (item_in b) o) is

-- ---- all items

pub items-are : (b : Book) (es : List Endpoint) → items_in (endpoints_in b es) ≡ map (item_in b) (all_waiting es)
items-are b [] = refl
items-are b (e ∷ es) = ap (λ (xs : List Item). map (item_in b) e.queue.waiting ++ xs) (items-are b es) ∙ sym (map-append (item_in b) e.queue.waiting (all_waiting es))

-- and the messages among them
messages_same : (b : Book) (e : Endpoint) → messages_at (endpoint_in b e) ≡ messages_waiting e
messages_same b e = go e.channel
  where
    go : (c : Option Channel) → cond (is_none (option_map end_of c)) (length (map (item_in b) e.queue.waiting)) 0 ≡ cond (is_none c) (length e.queue.waiting) 0
    go None = length-map e.queue.waiting (item_in b)
    go (Some c) = refl

pub messages-in : (b : Book) (es : List Endpoint) → sum_by messages_at (endpoints_in b es) ≡ sum_by messages_waiting es
messages-in b [] = refl
messages-in b (e ∷ es) = omega (arith, sum_by-cons messages_at (endpoint_in b e) (endpoints_in b es), sum_by-cons messages_waiting e es, messages_same b e, messages-in b es)

-- those from a peer are as many as its slots that wait
pub items-from : (b : Book) (number : ℕ) (es : List Endpoint) → count_by (is_from number) (items_in (endpoints_in b es)) ≡ count_by (λ (w : Waiting). is_of number w.slot) (all_waiting es)
items-from b number es = ap (count_by (is_from number)) (items-are b es) ∙ count-map (is_from number) (item_in b) (all_waiting es)
