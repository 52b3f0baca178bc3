-- A slot that leaves the queues or the requests, and whose item is taken out of the book: the lane of its peer has its frames back, and every
-- other lane stays in order.
use Rattle.std.proofs.Common.{◌≡◌, ℕ, ◌≤◌, true, refl, List, [], ◌∷◌, map, Option, None, Some, sym, ap, ◌∙◌, subst, arith}
use Rattle.std.specs.Prelude.{count_by, is_some, option_and_then}
use Rattle.std.specs.List.{AllByRecursion}
use Rattle.std.proofs.lemmas.List.{append-nil}
use Rattle.mc_base.specs.declared.request.PacketId.{PacketId}
use Rattle.mc_base.specs.declared.request.Slot.{Slot}
use Rattle.board_model.proofs.ListsCounts.{count-cons}
use Rattle.buffer_book.specs.Book.{Book, Item, frames_of, if_state, is_state, item_at, slot_of}
use Rattle.message_queue.specs.Queue.{Waiting}
use Rattle.request_set.specs.Requests.{Requests}
use Rattle.domain_parts.specs.Records.{Records, all_waiting, lent_slots, part_slots}
use Rattle.domain_parts.specs.Out.{Out}
use Rattle.domain_parts.specs.InBook.{endpoints_in, frames_at, open_parts, packets_in, requests_in}
use Rattle.domain_parts.specs.InRequests.{handed_slots}
use Rattle.domain_parts.specs.InPlaces.{AreInPlaces, AreInPlacesBeside, AreOpen, EachInPlace, IsLentAs, KeepOthers, is_misplaced, is_same, one_if, slots_of, times_in, times_waiting}
use Rattle.domain_parts.specs.Steps.{without_frames}
use Rattle.domain_parts.proofs.Books.{Others, differ-back, same-item}
use Rattle.domain_parts.proofs.Handed.{packets-stay, requests-stay}
use Rattle.domain_parts.proofs.OpenParts.{open-stay, parts-stay}
use Rattle.domain_parts.proofs.Placed.{HasMore, IsLane, Stands, in-place, lane-of, more-before, more-queued, no-one, none-left, queued-not_lent, queued-same, stands-of, times-there}
use Rattle.domain_parts.proofs.Placing.{lane-out, lane-same, out-changes, out-others, out-stands}
use Rattle.domain_parts.proofs.Slots.{misplaced-stay, times-all}
use Rattle.domain_parts.proofs.Waits.{endpoints-stay}

-- a slot is given up: its lane has its frames back, and every other lane stays in order
pub record GivesUp (r r' : Records) (q q' : Requests) (b b' : Book) (s : Slot) (fs : List ℕ) : Type 0 where
  pub beside : (number : ℕ) (o : Out) → s.peer ≡ number → AreInPlaces number r q b o → AreInPlacesBeside fs number r' q' b' o
  pub others : KeepOthers s.peer r q b r' q' b'

-- what is lent in other slots than one that changes
pub each-lent : (b b' : Book) (s : Slot) → Others b b' s → (ids : List PacketId) → times_in s (map slot_of ids) ≡ 0 → AllByRecursion (IsLentAs b) ids → AllByRecursion (IsLentAs b') ids
each-lent b b' s others [] none all = tt
each-lent b b' s others (i ∷ ids) none all =
    let sum = count-cons (λ (x : Slot). is_same x s) (slot_of i) (map slot_of ids) in
    let here : one_if (is_same (slot_of i) s) ≡ 0 = omega (arith, sum, none) in
    let differ = differ-back (slot_of i) s (no-one (is_same (slot_of i) s) here) in
    (ap (λ (o : Option Item). is_some (option_and_then (if_state (Some i.serial)) o)) (same-item b b' (slot_of i) (others (slot_of i) differ)) ∙ all.0, each-lent b b' s others ids (omega (arith, sum, none)) all.1)

module _ (r r' : Records) (q q' : Requests) (b : Book) (s : Slot) (more : HasMore s (slots_of r' q') (slots_of r q)) where
  abbrev vs : List Waiting
  vs = all_waiting r'.endpoints

  abbrev os : List Slot
  os = part_slots r'.parts

  abbrev gs : List Slot
  gs = handed_slots q'.standing

  abbrev pub left_book : Book
  left_book = without_frames b s None (frames_at b s)

  module _ (number : ℕ) (o : Out) (places : AreInPlaces number r q b o) where
    st : Stands (slots_of r q) (lent_slots r) b
    st = stands-of (lent_slots r) number o (slots_of r q) b [] places.each

    -- the item that leaves
    it : (i : Item) × (item_at b s ≡ Some i) × (is_state i.lent None ≡ true)
    it = queued-same (item_at b s) (more-queued (slots_of r q) (lent_slots r) b st s (slots_of r' q') more)

    -- it is nowhere now
    none : times_in s (slots_of r' q') ≡ 0
    none = none-left (slots_of r q) (lent_slots r) b st s (slots_of r' q') more

    pub left-lent : times_in s (lent_slots r) ≡ 0
    left-lent = queued-not_lent (slots_of r q) (lent_slots r) b st s (more-queued (slots_of r q) (lent_slots r) b st s (slots_of r' q') more)

    pub left-waiting : times_waiting s vs ≡ 0
    left-waiting = omega (arith, none, times-all s os vs gs)

    pub left-handed : times_in s gs ≡ 0
    left-handed = omega (arith, none, times-all s os vs gs)

    left-open : times_in s os ≡ 0
    left-open = omega (arith, none, times-all s os vs gs)

    -- what is held is as it was
    pub left-others : Others b left_book s
    left-others = out-others (slots_of r q) (lent_slots r) (slots_of r' q') (lent_slots r) b st s None it.0 it.1 it.2

    pub left-endpoints : endpoints_in left_book r'.endpoints ≡ endpoints_in b r'.endpoints
    left-endpoints = endpoints-stay b left_book s left-others r'.endpoints left-waiting

    pub left-requests : requests_in left_book q'.standing ≡ requests_in b q'.standing
    left-requests = requests-stay b left_book s left-others q'.standing left-handed

    pub left-packets : r'.lent ≡ r.lent → packets_in left_book r'.lent ≡ packets_in b r'.lent
    left-packets same = packets-stay b left_book s left-others r'.lent (ap (λ (ids : List PacketId). times_in s (map slot_of ids)) same ∙ left-lent)

    pub left-parts : open_parts left_book r'.parts ≡ open_parts b r'.parts
    left-parts = parts-stay b left_book s left-others r'.parts left-open

    pub left-stands : Stands (slots_of r' q') (lent_slots r) left_book
    left-stands =
        out-stands (slots_of r q) (lent_slots r) (slots_of r' q') (lent_slots r) b st s None it.0 it.1 it.2
        (more-before s (slots_of r' q') (slots_of r q) (lent_slots r) more) (λ t differ. sym (times-there s t (slots_of r' q') (slots_of r q) more differ)) (λ t differ. refl)

    -- all that waits has the priority of its first frame
    pub left-priorities : count_by (is_misplaced b) vs ≤ count_by (is_misplaced b) (all_waiting r.endpoints) → count_by (is_misplaced left_book) vs ≡ 0
    left-priorities fewer = let was = places.priorities in misplaced-stay b left_book s left-others vs left-waiting ∙ omega (arith, was, fewer)

  module _ (same : r'.lent ≡ r.lent) (opens : AreOpen b r.parts → AreOpen b r'.parts) (fewer : count_by (is_misplaced b) vs ≤ count_by (is_misplaced b) (all_waiting r.endpoints)) where
    abbrev is_placed : ℕ → Out → List ℕ → List PacketId → Type 0
    is_placed number o ns ids = EachInPlace number o (slots_of r' q') (map slot_of ids) left_book ns

    still-lent : (number : ℕ) (o : Out) → AreInPlaces number r q b o → AllByRecursion (IsLentAs left_book) r'.lent
    still-lent number o places = subst (AllByRecursion (IsLentAs left_book)) (sym same) (each-lent b left_book s (left-others number o places) r.lent (left-lent number o places) places.lent)

    still-open : (number : ℕ) (o : Out) → AreInPlaces number r q b o → AreOpen left_book r'.parts
    still-open number o places = open-stay b left_book s (left-others number o places) r'.parts (left-open number o places) (opens places.parts)

    -- between its place and its lane
    left-beside : (number : ℕ) (o : Out) → s.peer ≡ number → AreInPlaces number r q b o → AreInPlacesBeside (frames_at b s) number r' q' left_book o
    left-beside number o own places =
        let lane = subst (λ (n : ℕ). IsLane n o b []) (sym own) (lane-of (lent_slots r) number o (slots_of r q) b [] places.each) in
        let i = it number o places in
        let out = lane-out (slots_of r q) (lent_slots r) (slots_of r' q') (lent_slots r) b (st number o places) s None i.0 i.1 i.2 o [] lane in
        record {
          each = subst (is_placed number o (frames_at b s)) (sym same) (in-place (lent_slots r) number o (slots_of r' q') left_book (frames_at b s) (left-stands number o places) (subst (λ (n : ℕ). IsLane n o left_book (frames_at b s)) own (subst (IsLane s.peer o left_book) (append-nil (frames_at b s)) out)));
          priorities = left-priorities number o places fewer;
          lent = still-lent number o places;
          parts = still-open number o places;
        }

    left-others_kept : KeepOthers s.peer r q b r' q' left_book
    left-others_kept number o differ places =
        let i = it number o places in
        let changes = out-changes (slots_of r q) (lent_slots r) (slots_of r' q') (lent_slots r) b (st number o places) s None i.0 i.1 i.2 in
        record {
          each = subst (is_placed number o []) (sym same) (in-place (lent_slots r) number o (slots_of r' q') left_book [] (left-stands number o places) (lane-same number o b left_book [] s (frames_of i.0) None changes differ (lane-of (lent_slots r) number o (slots_of r q) b [] places.each)));
          priorities = left-priorities number o places fewer;
          lent = still-lent number o places;
          parts = still-open number o places;
        }

    pub left-up : GivesUp r r' q q' b left_book s (frames_at b s)
    left-up = record { beside = left-beside; others = left-others_kept }
