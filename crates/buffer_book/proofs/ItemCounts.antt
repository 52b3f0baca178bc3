-- How many frames are held after each change.
use Rattle.std.proofs.Common.{◌≡◌, ℕ, suc, ◌+◌, List, [], ◌∷◌, ◌++◌, length, Option, Some, None, refl, ap, ◌∙◌, arith}
use Rattle.std.specs.Prelude.{slice_get, slice_set, option_and_then, option_map}
use Rattle.std.proofs.lemmas.Bool.{eq-eqb}
use Rattle.std.proofs.lemmas.Option.{option_and_then_some}
use Rattle.mc_base.specs.declared.request.Slot.{Slot}
use Rattle.buffer_book.specs.Book.{Kept, Item, Shelf, Book, IsFree, shelf_of, item_at, item_on, with_queued, with_joined, with_lent, with_taken, with_frame, lent_under, left_of, joined, lent_on, taken, queued_in, lent_in, queued_from, lent_from, queued_frames, lent_frames}
use Rattle.buffer_book.proofs.Sets.{set-sum}
use Rattle.buffer_book.proofs.ShelfLemmas.{taken-peer}
use Rattle.buffer_book.proofs.ItemLemmas.{at-own, name-item, enqueued-shelf, taken-shelf, single}

-- ---- how many frames are held

pub enqueued-counts : (b : Book) (slot : Slot) (k : Kept) → IsFree b slot → (queued_from (with_queued b slot k) slot.peer ≡ queued_from b slot.peer + 1) × (lent_from (with_queued b slot k) slot.peer ≡ lent_from b slot.peer)
enqueued-counts b slot k free =
    option_and_then_some (λ (s : Shelf). slice_get s.items slot.buffer) (shelf_of b slot.peer) None free
    (λ s found at.
    let new = enqueued-shelf b slot k s free found in
    let q = set-sum queued_frames s.items slot.buffer None (Some (single slot.buffer)) at in
    let l = set-sum lent_frames s.items slot.buffer None (Some (single slot.buffer)) at in
    let qn = ap (λ (o : Option Shelf). queued_in o) new in
    let ln = ap (λ (o : Option Shelf). lent_in o) new in
    let qo = ap (λ (o : Option Shelf). queued_in o) found in
    let lo = ap (λ (o : Option Shelf). lent_in o) found in
    (omega (arith, q, qn, qo), omega (arith, l, ln, lo)))

length-more : (ns : List ℕ) (n : ℕ) → length (ns ++ n ∷ []) ≡ suc (length ns)
length-more [] n = refl
length-more (m ∷ ns) n = ap suc (length-more ns n)

-- a frame joins an item in the queue
pub joined-counts : (b : Book) (slot : Slot) (k : Kept) (first : ℕ) (more : List ℕ) → item_at b slot ≡ Some (record { lent = None; first = first; more = more }) → (queued_from (with_joined b slot k) slot.peer ≡ queued_from b slot.peer + 1) × (lent_from (with_joined b slot k) slot.peer ≡ lent_from b slot.peer)
joined-counts b slot k first more is =
    let i : Item = record { lent = None; first = first; more = more } in
    let n = k.buffer.number in
    option_and_then_some (λ (s : Shelf). slice_get s.items slot.buffer) (shelf_of b slot.peer) (Some i) (name-item b slot i is)
    (λ s found at.
    let here : item_on s.items slot.buffer ≡ Some i = ap (λ (o : Option (Option Item)). option_and_then (λ (x : Option Item). x) o) at in
    let new = at-own b slot.peer (joined slot.buffer n k) s (λ x. refl) found ∙ ap (λ (o : Option Item). Some (record s { places = slice_set s.places n (Some k); items = slice_set s.items slot.buffer (option_map (with_frame n) o) })) here in
    let q = set-sum queued_frames s.items slot.buffer (Some i) (Some (with_frame n i)) at in
    let l = set-sum lent_frames s.items slot.buffer (Some i) (Some (with_frame n i)) at in
    let size = length-more more n in
    let qn = ap (λ (o : Option Shelf). queued_in o) new in
    let ln = ap (λ (o : Option Shelf). lent_in o) new in
    let qo = ap (λ (o : Option Shelf). queued_in o) found in
    let lo = ap (λ (o : Option Shelf). lent_in o) found in
    (omega (arith, q, qn, qo, size), omega (arith, l, ln, lo)))

-- an item in the queue is lent
pub lent-counts : (b : Book) (slot : Slot) (first : ℕ) (more : List ℕ) → item_at b slot ≡ Some (record { lent = None; first = first; more = more }) → (queued_from (with_lent b slot) slot.peer + suc (length more) ≡ queued_from b slot.peer) × (lent_from (with_lent b slot) slot.peer ≡ lent_from b slot.peer + suc (length more))
lent-counts b slot first more is =
    let i : Item = record { lent = None; first = first; more = more } in
    option_and_then_some (λ (s : Shelf). slice_get s.items slot.buffer) (shelf_of b slot.peer) (Some i) (name-item b slot i is)
    (λ s found at.
    let here : item_on s.items slot.buffer ≡ Some i = ap (λ (o : Option (Option Item)). option_and_then (λ (x : Option Item). x) o) at in
    let new = at-own b slot.peer (lent_on slot.buffer b.lends) s (λ x. refl) found ∙ ap (λ (o : Option Item). Some (record s { items = slice_set s.items slot.buffer (option_map (lent_under b.lends) o) })) here in
    let q = set-sum queued_frames s.items slot.buffer (Some i) (Some (lent_under b.lends i)) at in
    let l = set-sum lent_frames s.items slot.buffer (Some i) (Some (lent_under b.lends i)) at in
    let qn = ap (λ (o : Option Shelf). queued_in o) new in
    let ln = ap (λ (o : Option Shelf). lent_in o) new in
    let qo = ap (λ (o : Option Shelf). queued_in o) found in
    let lo = ap (λ (o : Option Shelf). lent_in o) found in
    (omega (arith, q, qn, qo), omega (arith, l, ln, lo)))

left-frames : (fs : List ℕ) → (queued_frames (left_of None fs) ≡ length fs) × (lent_frames (left_of None fs) ≡ 0)
left-frames [] = (refl, refl)
left-frames (f ∷ fs) = (refl, refl)

left-lent : (n : ℕ) (fs : List ℕ) → (lent_frames (left_of (Some n) fs) ≡ length fs) × (queued_frames (left_of (Some n) fs) ≡ 0)
left-lent n [] = (refl, refl)
left-lent n (f ∷ fs) = (refl, refl)

-- a frame of an item in the queue is taken out
pub withdrawn-counts : (b : Book) (slot : Slot) (first : ℕ) (more : List ℕ) → item_at b slot ≡ Some (record { lent = None; first = first; more = more }) → (queued_from (with_taken b slot None) slot.peer + 1 ≡ queued_from b slot.peer) × (lent_from (with_taken b slot None) slot.peer ≡ lent_from b slot.peer)
withdrawn-counts b slot first more is =
    let i : Item = record { lent = None; first = first; more = more } in
    option_and_then_some (λ (s : Shelf). slice_get s.items slot.buffer) (shelf_of b slot.peer) (Some i) (name-item b slot i is)
    (λ s found at.
    let new = at-own b slot.peer (taken slot.buffer None) s (taken-peer slot.buffer None) found ∙ ap (λ (x : Shelf). Some x) (taken-shelf s slot.buffer None i at refl) in
    let q = set-sum queued_frames s.items slot.buffer (Some i) (left_of None more) at in
    let l = set-sum lent_frames s.items slot.buffer (Some i) (left_of None more) at in
    let w = left-frames more in
    let qn = ap (λ (o : Option Shelf). queued_in o) new in
    let ln = ap (λ (o : Option Shelf). lent_in o) new in
    let qo = ap (λ (o : Option Shelf). queued_in o) found in
    let lo = ap (λ (o : Option Shelf). lent_in o) found in
    (omega (arith, q, qn, qo, w.0), omega (arith, l, ln, lo, w.1)))

-- a frame of a lent item is given up
pub released-counts : (b : Book) (slot : Slot) (serial first : ℕ) (more : List ℕ) → item_at b slot ≡ Some (record { lent = Some serial; first = first; more = more }) → (queued_from (with_taken b slot (Some serial)) slot.peer ≡ queued_from b slot.peer) × (lent_from (with_taken b slot (Some serial)) slot.peer + 1 ≡ lent_from b slot.peer)
released-counts b slot serial first more is =
    let i : Item = record { lent = Some serial; first = first; more = more } in
    option_and_then_some (λ (s : Shelf). slice_get s.items slot.buffer) (shelf_of b slot.peer) (Some i) (name-item b slot i is)
    (λ s found at.
    let new = at-own b slot.peer (taken slot.buffer (Some serial)) s (taken-peer slot.buffer (Some serial)) found ∙ ap (λ (x : Shelf). Some x) (taken-shelf s slot.buffer (Some serial) i at (eq-eqb serial serial refl)) in
    let q = set-sum queued_frames s.items slot.buffer (Some i) (left_of (Some serial) more) at in
    let l = set-sum lent_frames s.items slot.buffer (Some i) (left_of (Some serial) more) at in
    let w = left-lent serial more in
    let qn = ap (λ (o : Option Shelf). queued_in o) new in
    let ln = ap (λ (o : Option Shelf). lent_in o) new in
    let qo = ap (λ (o : Option Shelf). queued_in o) found in
    let lo = ap (λ (o : Option Shelf). lent_in o) found in
    (omega (arith, q, qn, qo, w.1), omega (arith, l, ln, lo, w.0)))
