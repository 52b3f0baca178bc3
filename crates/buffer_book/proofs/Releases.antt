-- What is left where a frame of any lent item is given back.
use Rattle.std.proofs.Common.{◌≡◌, ◌≢◌, ℕ, zero, suc, ◌<◌, true, false, cond, List, [], ◌∷◌, length, Option, Some, None, refl, sym, ap, subst, ◌∙◌, arith}
use Rattle.std.specs.Prelude.{slice_get, slice_set, option_and_then, option_map, find, ◌==◌, is_some}
use Rattle.std.specs.Option.{option_or}
use Rattle.std.specs.List.{AllByRecursion}
use Rattle.std.proofs.lemmas.Bool.{eqb-true, eqb-false}
use Rattle.std.proofs.lemmas.Option.{option_and_then_some, slice_get_within}
use Rattle.mc_base.specs.Stored.{Stored}
use Rattle.mc_base.specs.declared.request.Slot.{Slot}
use Rattle.mc_base.specs.declared.request.PacketId.{PacketId}
use Rattle.buffer_book.specs.Book.{Kept, Item, Aside, Shelf, Book, IsAway, IsFree, EachHoldsOnce, HoldsOnce, frame_at, shelf_of, slot_of, place_at, item_on, item_as, item_aside, aside_on, place_aside, item_of_shelf, lent_as, if_state, queued_at, with_queued, with_taken, aside_of, moved_aside, enqueued, taken, taken_named, taken_named_of, taken_aside, taken_aside_of}
use Rattle.buffer_book.proofs.Sets.{set-same, set-other}
use Rattle.buffer_book.proofs.Found.{as-on}
use Rattle.buffer_book.proofs.ShelfLemmas.{is_shelf_of, taken-peer, enqueued-peer}
use Rattle.buffer_book.proofs.ItemLemmas.{at-own, at-other_peer, place_of_shelf, name_of_shelf, item-name, single}

-- ---- what the clause of `each_held_once` gives

-- the shelf of a peer holds each frame once
pub shelf-holds_once : (b : Book) (peer : ℕ) (s : Shelf) → EachHoldsOnce b → shelf_of b peer ≡ Some s → HoldsOnce s
shelf-holds_once b peer s each found = by-list b.shelves each found
  where
    by-list : (ss : List Shelf) → AllByRecursion HoldsOnce ss → find (is_shelf_of peer) ss ≡ Some s → HoldsOnce s
    by-list [] all found = absurd cc
    by-list (x ∷ ss) all found =
        elim (x.peer == peer) as (λ e. cond e (Some x) (find (is_shelf_of peer) ss) ≡ Some s → HoldsOnce s) [
          | true ↦ λ here. let same : x ≡ s = cc in subst HoldsOnce same all.0
          | false ↦ λ there. by-list ss all.1 there
        ] found

there-within : {X : Type 0} (xs : List X) (n : ℕ) → n < length xs → (x : X) × (slice_get xs n ≡ Some x)
there-within [] n lt = absurd (omega arith)
there-within (x ∷ xs) zero lt = (x, refl)
there-within (x ∷ xs) (suc n) lt = there-within xs n (omega arith)

moved-there : (name : ℕ) (s : Shelf) (o : Option Item) → slice_get s.items name ≡ Some o → (p : Option Item) × (slice_get (moved_aside name s).items name ≡ Some p)
moved-there name s o at = by-item (item_on s.items name)
  where
    by-item : (i : Option Item) → (p : Option Item) × (slice_get (aside_of name i s).items name ≡ Some p)
    by-item None = (o, at)
    by-item (Some i) = (None, set-same s.items name o None at)

-- a buffer that came in is an item of one frame, also where a lent item had its name
pub enqueued-single : (b : Book) (slot : Slot) (k : Kept) → EachHoldsOnce b → IsAway b slot → queued_at (with_queued b slot k) slot ≡ Some (single slot.buffer)
enqueued-single b slot k each away =
    option_and_then_some (λ (s : Shelf). slice_get s.places slot.buffer) (shelf_of b slot.peer) None away
    (λ s found at.
    let once = shelf-holds_once b slot.peer s each found in
    let within = slice_get_within s.places slot.buffer None at in
    let named = there-within s.items slot.buffer (omega (arith, within, once.names)) in
    let moved = moved-there slot.buffer s named.0 named.1 in
    let name = ap (name_of_shelf slot.buffer) (at-own b slot.peer (enqueued slot.buffer k) s (enqueued-peer slot.buffer k) found) ∙ set-same (moved_aside slot.buffer s).items slot.buffer moved.0 (Some (single slot.buffer)) moved.1 in
    ap (option_and_then (if_state None)) (item-name (with_queued b slot k) slot ∙ ap (λ (o : Option (Option Item)). option_and_then (λ (i : Option Item). i) o) name))

-- ---- a frame that is given back is away

first-away : (s : Shelf) (name : ℕ) (lent : Option ℕ) (i : Item) (p : Option Kept) → item_of_shelf s name lent ≡ Some i → slice_get s.places i.first ≡ Some p → slice_get (taken name lent s).places i.first ≡ Some None
first-away s name lent i p is held = by-named (item_as s.items name lent) refl
  where
    by-aside : (o : Option ℕ) → place_aside s.aside name lent ≡ o → option_map (λ (a : Aside). a.item) (option_and_then (aside_on s.aside) o) ≡ Some i → slice_get (taken_aside o s).places i.first ≡ Some None
    by-aside None placed aside = absurd cc
    by-aside (Some l) placed aside = by-item (aside_on s.aside l) aside
      where
        by-item : (o : Option Aside) → option_map (λ (a : Aside). a.item) o ≡ Some i → slice_get (taken_aside_of l o s).places i.first ≡ Some None
        by-item None aside = absurd cc
        by-item (Some a) aside =
            let same : a.item ≡ i = cc in
            ap (λ (j : Item). slice_get (slice_set s.places j.first None) i.first) same ∙ set-same s.places i.first p None held

    by-named : (o : Option Item) → item_as s.items name lent ≡ o → slice_get (taken name lent s).places i.first ≡ Some None
    by-named None none =
        let aside = ap (λ (o : Option Item). option_or o (item_aside s.aside name lent)) (sym none) ∙ is in
        ap (λ (o : Option Item). slice_get (cond (is_some o) (taken_named name s) (taken_aside (place_aside s.aside name lent) s)).places i.first) none
        ∙ by-aside (place_aside s.aside name lent) refl aside
    by-named (Some j) here =
        let found = ap (λ (o : Option Item). option_or o (item_aside s.aside name lent)) (sym here) ∙ is in
        let same : j ≡ i = cc in
        let on = as-on s.items name lent j here in
        ap (λ (o : Option Item). slice_get (cond (is_some o) (taken_named name s) (taken_aside (place_aside s.aside name lent) s)).places i.first) here
        ∙ ap (λ (o : Option Item). slice_get (taken_named_of name o s).places i.first) on
        ∙ ap (λ (x : Item). slice_get (slice_set s.places x.first None) i.first) same
        ∙ set-same s.places i.first p None held

place-some : (o : Option (Option Kept)) (k : Kept) → option_and_then (λ p. p) o ≡ Some k → o ≡ Some (Some k)
place-some None k is = absurd cc
place-some (Some p) k is = ap (λ (q : Option Kept). Some q) is

-- the first frame of a lent item, once it is given back
pub released-away : (b : Book) (id : PacketId) (i : Item) (k : Kept) → lent_as b id ≡ Some i → frame_at b id.peer 0 i ≡ Some k → IsAway (with_taken b (slot_of id) (Some id.serial)) (record { peer = id.peer; buffer = i.first })
released-away b id i k is held =
    option_and_then_some (λ (s : Shelf). item_of_shelf s id.buffer (Some id.serial)) (shelf_of b id.peer) i is
    (λ s found item.
    let place : slice_get s.places i.first ≡ Some (Some k) = sym (ap (place_of_shelf i.first) found) ∙ place-some (place_at b (record { peer = id.peer; buffer = i.first })) k held in
    ap (place_of_shelf i.first) (at-own b id.peer (taken id.buffer (Some id.serial)) s (taken-peer id.buffer (Some id.serial)) found)
    ∙ first-away s id.buffer (Some id.serial) i (Some k) item place)

-- a free name names nothing in the queue
pub free-unqueued : (b : Book) (slot : Slot) → IsFree b slot → queued_at b slot ≡ None
free-unqueued b slot free = ap (option_and_then (if_state None)) (item-name b slot ∙ ap (λ (o : Option (Option Item)). option_and_then (λ (i : Option Item). i) o) free)

-- ---- the other places, where a frame is given back

first-others : (s : Shelf) (name : ℕ) (lent : Option ℕ) (i : Item) (n : ℕ) → item_of_shelf s name lent ≡ Some i → n ≢ i.first → slice_get (taken name lent s).places n ≡ slice_get s.places n
first-others s name lent i n is other = by-named (item_as s.items name lent) refl
  where
    by-aside : (o : Option ℕ) → option_map (λ (a : Aside). a.item) (option_and_then (aside_on s.aside) o) ≡ Some i → slice_get (taken_aside o s).places n ≡ slice_get s.places n
    by-aside None aside = absurd cc
    by-aside (Some l) aside = by-item (aside_on s.aside l) aside
      where
        by-item : (o : Option Aside) → option_map (λ (a : Aside). a.item) o ≡ Some i → slice_get (taken_aside_of l o s).places n ≡ slice_get s.places n
        by-item None aside = absurd cc
        by-item (Some a) aside =
            let same : a.item ≡ i = cc in
            ap (λ (j : Item). slice_get (slice_set s.places j.first None) n) same ∙ set-other s.places i.first n None other

    by-named : (o : Option Item) → item_as s.items name lent ≡ o → slice_get (taken name lent s).places n ≡ slice_get s.places n
    by-named None none =
        let aside = ap (λ (o : Option Item). option_or o (item_aside s.aside name lent)) (sym none) ∙ is in
        ap (λ (o : Option Item). slice_get (cond (is_some o) (taken_named name s) (taken_aside (place_aside s.aside name lent) s)).places n) none
        ∙ by-aside (place_aside s.aside name lent) aside
    by-named (Some j) here =
        let found = ap (λ (o : Option Item). option_or o (item_aside s.aside name lent)) (sym here) ∙ is in
        let same : j ≡ i = cc in
        let on = as-on s.items name lent j here in
        ap (λ (o : Option Item). slice_get (cond (is_some o) (taken_named name s) (taken_aside (place_aside s.aside name lent) s)).places n) here
        ∙ ap (λ (o : Option Item). slice_get (taken_named_of name o s).places n) on
        ∙ ap (λ (x : Item). slice_get (slice_set s.places x.first None) n) same
        ∙ set-other s.places i.first n None other

-- the other places, once it is given back
pub released-place_kept : (b : Book) (id : PacketId) (i : Item) (other : Slot) → lent_as b id ≡ Some i → other.buffer ≢ i.first → place_at (with_taken b (slot_of id) (Some id.serial)) other ≡ place_at b other
released-place_kept b id i other is differs =
    elim (other.peer == id.peer) as (λ e. (other.peer == id.peer) ≡ e → place_at (with_taken b (slot_of id) (Some id.serial)) other ≡ place_at b other) [
      | true ↦ λ same.
          rw (eqb-true other.peer id.peer same) (option_and_then_some (λ (s : Shelf). item_of_shelf s id.buffer (Some id.serial)) (shelf_of b id.peer) i is
          (λ s found item.
          ap (place_of_shelf other.buffer) (at-own b id.peer (taken id.buffer (Some id.serial)) s (taken-peer id.buffer (Some id.serial)) found)
          ∙ first-others s id.buffer (Some id.serial) i other.buffer item differs
          ∙ sym (ap (place_of_shelf other.buffer) found)))
      | false ↦ λ another. ap (place_of_shelf other.buffer) (at-other_peer b id.peer other.peer (taken id.buffer (Some id.serial)) (taken-peer id.buffer (Some id.serial)) (eqb-false other.peer id.peer another))
    ] refl

-- where the buffer that is given back names the item, it is away, and the others are where they were
pub released-own : (b : Book) (id : PacketId) (r : Stored) → Some r ≡ option_map (λ (k : Kept). k.buffer) (option_and_then (frame_at b id.peer 0) (lent_as b id)) → Some r.number ≡ option_map (λ (i : Item). i.first) (lent_as b id) → r.number ≡ id.buffer → IsAway (with_taken b (slot_of id) (Some id.serial)) (slot_of id) × ((other : Slot) → other.buffer ≢ id.buffer → place_at (with_taken b (slot_of id) (Some id.serial)) other ≡ place_at b other)
released-own b id r frame first names = by-item (lent_as b id) refl frame first
  where
    by-item : (o : Option Item) → lent_as b id ≡ o → Some r ≡ option_map (λ (k : Kept). k.buffer) (option_and_then (frame_at b id.peer 0) o) → Some r.number ≡ option_map (λ (i : Item). i.first) o → IsAway (with_taken b (slot_of id) (Some id.serial)) (slot_of id) × ((other : Slot) → other.buffer ≢ id.buffer → place_at (with_taken b (slot_of id) (Some id.serial)) other ≡ place_at b other)
    by-item None is frame first = absurd cc
    by-item (Some i) is frame first =
        let number : i.first ≡ id.buffer = (let same : r.number ≡ i.first = cc in sym same ∙ names) in
        by-frame i (frame_at b id.peer 0 i) is refl frame number
      where
        by-frame : (i : Item) (k : Option Kept) → lent_as b id ≡ Some i → frame_at b id.peer 0 i ≡ k → Some r ≡ option_map (λ (k : Kept). k.buffer) k → i.first ≡ id.buffer → IsAway (with_taken b (slot_of id) (Some id.serial)) (slot_of id) × ((other : Slot) → other.buffer ≢ id.buffer → place_at (with_taken b (slot_of id) (Some id.serial)) other ≡ place_at b other)
        by-frame i None is held frame number = absurd cc
        by-frame i (Some k) is held frame number = (
          subst (λ (n : ℕ). IsAway (with_taken b (slot_of id) (Some id.serial)) (record { peer = id.peer; buffer = n })) number (released-away b id i k is held),
          λ other differs. released-place_kept b id i other is (λ same. differs (same ∙ number)),
        )
