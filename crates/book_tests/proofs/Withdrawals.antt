-- What a withdrawal leaves of an item in the queue.
use Rattle.std.proofs.Common.{◌≡◌, ◌∙◌, ◌<◌, ◌∷◌, [], ℕ, suc, Bool, true, false, cond, List, length, Option, Some, None, refl, sym, ap, subst, arith}
use Rattle.std.specs.Prelude.{option_and_then, option_map, is_some, IfSome}
use Rattle.mc_base.specs.Stored.{Stored}
use Rattle.mc_base.specs.declared.request.Slot.{Slot}
use Rattle.buffer_book.specs.Book.{Kept, Item, Book, IsAway, IsQueued, count_of, frame_at, item_at, queued_at, place_at, if_state, is_state, left_of, with_taken}
use Rattle.buffer_book.proofs.ItemLemmas.{item-name, taken-name, taken-place}

queued-some : (o : Option Item) (i : Item) → option_and_then (if_state None) o ≡ Some i → (o ≡ Some i) × (is_state i.lent None ≡ true)
queued-some None i is = absurd cc
queued-some (Some j) i is = by-state (is_state j.lent None) refl is
  where
    by-state : (b : Bool) → is_state j.lent None ≡ b → cond b (Some j) None ≡ Some i → (Some j ≡ Some i) × (is_state i.lent None ≡ true)
    by-state true state is = (is, (let same : j ≡ i = cc in subst (λ (x : Item). is_state x.lent None ≡ true) same state))
    by-state false state is = absurd cc

left-queued : (lent : Option ℕ) (more : List ℕ) → is_state lent None ≡ true → 1 < suc (length more) → is_some (option_and_then (if_state None) (left_of lent more)) ≡ true
left-queued lent [] state several = absurd (omega (arith, several))
left-queued lent (f ∷ fs) state several = rw state refl

-- the rest of an item of several buffers is in the queue still
pub rest-queued : (b : Book) (slot : Slot) (n : ℕ) → Some n ≡ option_map count_of (queued_at b slot) → 1 < n → IsQueued (with_taken b slot None) slot
rest-queued b slot n count several = by-item (queued_at b slot) refl count
  where
    by-item : (o : Option Item) → queued_at b slot ≡ o → Some n ≡ option_map count_of o → IsQueued (with_taken b slot None) slot
    by-item None is count = absurd cc
    by-item (Some i) is count =
        let q = queued-some (item_at b slot) i is in
        let size : n ≡ suc (length i.more) = cc in
        let item = item-name (with_taken b slot None) slot ∙ ap (λ (o : Option (Option Item)). option_and_then (λ (x : Option Item). x) o) (taken-name b slot None i q.0 q.1) in
        ap (λ (o : Option Item). is_some (option_and_then (if_state None) o)) item ∙ left-queued i.lent i.more q.1 (subst (λ m. 1 < m) size several)

place-some : (o : Option (Option Kept)) (k : Kept) → option_and_then (λ (p : Option Kept). p) o ≡ Some k → o ≡ Some (Some k)
place-some None k is = absurd cc
place-some (Some p) k is = ap (λ (q : Option Kept). Some q) is

-- the buffer that was withdrawn is away
pub withdrawn-away : (b : Book) (slot : Slot) (r : Stored) → Some r ≡ option_map (λ (k : Kept). k.buffer) (option_and_then (frame_at b slot.peer 0) (queued_at b slot)) → Some r.number ≡ option_map (λ (i : Item). i.first) (queued_at b slot) → IsAway (with_taken b slot None) (record { peer = slot.peer; buffer = r.number })
withdrawn-away b slot r frame first = by-item (queued_at b slot) refl frame first
  where
    by-frame : (i : Item) (o : Option Kept) → queued_at b slot ≡ Some i → frame_at b slot.peer 0 i ≡ o → Some r ≡ option_map (λ (k : Kept). k.buffer) o → IsAway (with_taken b slot None) (record { peer = slot.peer; buffer = i.first })
    by-frame i None is held frame = absurd cc
    by-frame i (Some k) is held frame =
        let q = queued-some (item_at b slot) i is in
        taken-place b slot None i (Some k) q.0 q.1 (place-some (place_at b (record { peer = slot.peer; buffer = i.first })) k held)

    by-item : (o : Option Item) → queued_at b slot ≡ o → Some r ≡ option_map (λ (k : Kept). k.buffer) (option_and_then (frame_at b slot.peer 0) o) → Some r.number ≡ option_map (λ (i : Item). i.first) o → IsAway (with_taken b slot None) (record { peer = slot.peer; buffer = r.number })
    by-item None is frame first = absurd cc
    by-item (Some i) is frame first =
        let same : r.number ≡ i.first = cc in
        subst (λ (n : ℕ). IsAway (with_taken b slot None) (record { peer = slot.peer; buffer = n })) (sym same) (by-frame i (frame_at b slot.peer 0 i) is refl frame)

-- a number below the count of buffers names one
pub below-count : (o : Option Item) (n count : ℕ) → Some count ≡ option_map count_of o → n < count → IfSome o (λ i. n < count_of i)
below-count None n count is below = absurd cc
below-count (Some i) n count is below = (let size : count ≡ count_of i = cc in subst (λ m. n < m) size below)
