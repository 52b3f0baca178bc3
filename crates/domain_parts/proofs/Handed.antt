-- Messages that complete requests hold, by the book of buffers.
use Rattle.std.proofs.Common.{◌≡◌, ℕ, zero, suc, ◌≤◌, false, List, [], ◌∷◌, ◌++◌, length, map, take, Option, Some, None, refl, sym, ap, ◌∙◌, arith}
use Rattle.std.specs.Prelude.{option_map, slice_get}
use Rattle.std.specs.List.{flat_map}
use Rattle.std.proofs.lemmas.List.{map-append}
use Rattle.mc_base.specs.declared.request.PacketId.{PacketId}
use Rattle.mc_base.specs.declared.request.RequestId.{RequestId}
use Rattle.mc_base.specs.declared.request.Slot.{Slot}
use Rattle.board_model.specs.State as state
use Rattle.board_model.specs.State.{Item, LentPacket, Request, is_from}
use Rattle.board_model.proofs.ListsCounts.{count-append, count-cons}
use Rattle.buffer_book.specs.Book.{Book, slot_of}
use Rattle.request_set.specs.declared.ask.Ask.{Ask}
use Rattle.request_set.specs.declared.ask.Complete.{Complete}
use Rattle.request_set.specs.declared.ask.Complete.TheVariants as complete
use Rattle.request_set.specs.Requests.{Standing}
use Rattle.domain_parts.specs.InBook.{Whole, item_read, numbered_at, outcome_in, packet_in, packets_in, priority_in, request_in, requests_in}
use Rattle.domain_parts.specs.InRequests.{handed_slots, slots_in}
use Rattle.domain_parts.specs.InPlaces.{is_same, times_in}
use Rattle.domain_parts.proofs.Books.{Others, differ-back}
use Rattle.domain_parts.proofs.Placed.{no-one}

-- ---- what was handed in other slots than the one that changed stays

one-slot : (s t : Slot) → times_in s (t ∷ []) ≡ 0 → is_same t s ≡ false
one-slot s t none = no-one (is_same t s) (let sum = count-cons (λ (x : Slot). is_same x s) t [] in omega (arith, sum, none))

item-stays : (b b' : Book) (s t : Slot) → Others b b' s → times_in s (t ∷ []) ≡ 0 → numbered_at b' t ≡ numbered_at b t
item-stays b b' s t others none = ap (λ (o : Option Whole). item_read o t (priority_in o)) (others t (differ-back t s (one-slot s t none)))

outcome-stays : (b b' : Book) (s : Slot) → Others b b' s → (o : Option Complete) → times_in s (slots_in o) ≡ 0 → option_map (outcome_in b') o ≡ option_map (outcome_in b) o
outcome-stays b b' s others None none = refl
outcome-stays b b' s others (Some (complete.Address address)) none = refl
outcome-stays b b' s others (Some complete.Accepted) none = refl
outcome-stays b b' s others (Some (complete.Rejected reason)) none = refl
outcome-stays b b' s others (Some (complete.Message slot max)) none = ap (λ (i : Item). Some (state.has_item i)) (item-stays b b' s slot others none)
outcome-stays b b' s others (Some (complete.Packet slot)) none = ap (λ (i : Item). Some (state.has_item i)) (item-stays b b' s slot others none)
outcome-stays b b' s others (Some (complete.Ended word)) none = refl

pub requests-stay : (b b' : Book) (s : Slot) → Others b b' s → (rs : List Standing) → times_in s (handed_slots rs) ≡ 0 → requests_in b' rs ≡ requests_in b rs
requests-stay b b' s others [] none = refl
requests-stay b b' s others (r ∷ rs) none =
    let sum = count-append (λ (x : Slot). is_same x s) (slots_in r.complete) (handed_slots rs) in
    let here : times_in s (slots_in r.complete) ≡ 0 = omega (arith, sum, none) in
    let rest : times_in s (handed_slots rs) ≡ 0 = omega (arith, sum, none) in
    ap (λ (o : Option state.Outcome). record (request_in b r) { outcome = o } ∷ requests_in b' rs) (outcome-stays b b' s others r.complete here)
    ∙ ap (λ (xs : List Request). request_in b r ∷ xs) (requests-stay b b' s others rs rest)

-- and so does what is lent in others
pub packets-stay : (b b' : Book) (s : Slot) → Others b b' s → (ids : List PacketId) → times_in s (map slot_of ids) ≡ 0 → packets_in b' ids ≡ packets_in b ids
packets-stay b b' s others [] none = refl
packets-stay b b' s others (i ∷ ids) none =
    let sum = count-cons (λ (x : Slot). is_same x s) (slot_of i) (map slot_of ids) in
    let one = count-cons (λ (x : Slot). is_same x s) (slot_of i) [] in
    let here : times_in s (slot_of i ∷ []) ≡ 0 = omega (arith, sum, one, none) in
    let rest : times_in s (map slot_of ids) ≡ 0 = omega (arith, sum, none) in
    ap (λ (x : Item). record { serial = i.serial; item = x } ∷ packets_in b' ids) (item-stays b b' s (slot_of i) others here)
    ∙ ap (λ (xs : List LentPacket). packet_in b i ∷ xs) (packets-stay b b' s others ids rest)

-- ---- the items that they hold

pub item-in : (b : Book) (o : Option Complete) → state.item_in (option_map (outcome_in b) o) ≡ map (numbered_at b) (slots_in o)
item-in b None = refl
item-in b (Some (complete.Address address)) = refl
item-in b (Some complete.Accepted) = refl
item-in b (Some (complete.Rejected reason)) = refl
item-in b (Some (complete.Message slot max)) = refl
item-in b (Some (complete.Packet slot)) = refl
item-in b (Some (complete.Ended word)) = refl

pub items-handed : (b : Book) (rs : List Standing) → flat_map (λ (r : Request). state.item_in r.outcome) (requests_in b rs) ≡ map (numbered_at b) (handed_slots rs)
items-handed b [] = refl
items-handed b (r ∷ rs) =
    ap (λ (xs : List Item). xs ++ flat_map (λ (x : Request). state.item_in x.outcome) (requests_in b rs)) (item-in b r.complete)
    ∙ ap (λ (xs : List Item). map (numbered_at b) (slots_in r.complete) ++ xs) (items-handed b rs)
    ∙ sym (map-append (numbered_at b) (slots_in r.complete) (handed_slots rs))

-- ---- the requests one after the other

pub nothing-there : (k : ℕ) → take {A = Standing} k [] ≡ []
nothing-there zero = refl
nothing-there (suc k) = refl

abbrev pub Listing : Type 0
Listing = RequestId × Ask × Option Complete

abbrev pub listing : Standing → Listing
listing r = (r.id, r.ask, r.complete)

-- past the last one
pub none-past : (rs : List Standing) (k : ℕ) → slice_get rs k ≡ None → length rs ≤ k
none-past [] k e = omega arith
none-past (r ∷ rs) zero e = absurd cc
none-past (r ∷ rs) (suc k) e = let rest = none-past rs k e in omega (arith, rest)

pub none-listed : (o : Option Standing) → None ≡ option_map listing o → o ≡ None
none-listed None e = refl
none-listed (Some r) e = absurd cc
