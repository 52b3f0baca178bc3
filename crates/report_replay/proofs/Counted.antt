-- Counts of the frames that brought items, in queues and lent.
use Rattle.std.proofs.Common.{◌≡◌, ℕ, ◌+◌, Bool, true, false, cond, List, [], ◌∷◌, ◌++◌, length, length-append, map, refl, arith}
use Rattle.std.specs.Prelude.{filter, sum_by}
use Rattle.std.specs.List.{flat_map}
use Rattle.std.proofs.lemmas.List.Sums.{sum_by-cons}
use Rattle.board_model.specs.State.{Item, Endpoint, Request, LentPacket, is_from, item_in, frames_from}

pub frames-cons : (n : ℕ) (i : Item) (is : List Item) → length (frames_from n (i ∷ is)) ≡ length (frames_from n (i ∷ [])) + length (frames_from n is)
frames-cons n i is = go (is_from n i)
  where
    go : (b : Bool) → length (flat_map (λ (x : Item). x.frames) (cond b (i ∷ filter (is_from n) is) (filter (is_from n) is))) ≡ length (flat_map (λ (x : Item). x.frames) (cond b (i ∷ []) [])) + length (frames_from n is)
    go true = omega (arith, length-append i.frames (frames_from n is), length-append i.frames [])
    go false = omega arith

pub frames-append : (n : ℕ) (is js : List Item) → length (frames_from n (is ++ js)) ≡ length (frames_from n is) + length (frames_from n js)
frames-append n [] js = omega arith
frames-append n (i ∷ is) js = omega (arith, frames-cons n i (is ++ js), frames-append n is js, frames-cons n i is)

-- ---- how many brought an item, a queue, a lent packet, and the item of a request

abbrev pub item_weight : ℕ → Item → ℕ
item_weight n i = length (frames_from n (i ∷ []))

abbrev pub queue_weight : ℕ → Endpoint → ℕ
queue_weight n e = length (frames_from n e.queue)

abbrev pub packet_weight : ℕ → LentPacket → ℕ
packet_weight n p = item_weight n p.item

abbrev pub request_weight : ℕ → Request → ℕ
request_weight n r = length (frames_from n (item_in r.outcome))

pub items-weighed : (n : ℕ) (is : List Item) → sum_by (item_weight n) is ≡ length (frames_from n is)
items-weighed n [] = refl
items-weighed n (i ∷ is) = omega (arith, sum_by-cons (item_weight n) i is, items-weighed n is, frames-cons n i is)

pub queues-weighed : (n : ℕ) (es : List Endpoint) → sum_by (queue_weight n) es ≡ length (frames_from n (flat_map (λ e. e.queue) es))
queues-weighed n [] = refl
queues-weighed n (e ∷ es) = omega (arith, sum_by-cons (queue_weight n) e es, queues-weighed n es, frames-append n e.queue (flat_map (λ (x : Endpoint). x.queue) es))

pub packets-weighed : (n : ℕ) (ps : List LentPacket) → sum_by (packet_weight n) ps ≡ length (frames_from n (map (λ p. p.item) ps))
packets-weighed n [] = refl
packets-weighed n (p ∷ ps) = omega (arith, sum_by-cons (packet_weight n) p ps, packets-weighed n ps, frames-cons n p.item (map (λ (x : LentPacket). x.item) ps))

pub requests-weighed : (n : ℕ) (rs : List Request) → sum_by (request_weight n) rs ≡ length (frames_from n (flat_map (λ r. item_in r.outcome) rs))
requests-weighed n [] = refl
requests-weighed n (r ∷ rs) = omega (arith, sum_by-cons (request_weight n) r rs, requests-weighed n rs, frames-append n (item_in r.outcome) (flat_map (λ (x : Request). item_in x.outcome) rs))
