-- A packet that is lent: its buffers stay in the book, and all that is held is read as before.
use Rattle.std.proofs.Common.{◌≡◌, ℕ, ◌+◌, ◌-◌, ◌≤◌, Bool, true, false, cond, List, [], ◌∷◌, ◌++◌, length, map, Option, Some, None, refl, sym, ap, ap₂, ◌∙◌, subst, arith, eq-eqb}
use Rattle.std.specs.Prelude.{count_by, is_some, not, option_and_then, option_map, slice_get, ◌%◌, ◌^◌, ◌==◌, ◌&&◌}
use Rattle.std.specs.List.{AllByRecursion, position_from}
use Rattle.std.proofs.lemmas.Iterator.Adapters.{position_from-zero}
use Rattle.std.proofs.lemmas.List.{length-map, length_push, map_push}
use Rattle.mc_base.specs.declared.request.PacketId.{PacketId}
use Rattle.mc_base.specs.declared.request.Slot.{Slot}
use Rattle.board_model.specs.Change.{changed, packet_lent}
use Rattle.board_model.specs.State as state
use Rattle.board_model.specs.State.{Item, LentPacket}
use Rattle.board_model.proofs.ListsCounts.{count-append, count-cons}
use Rattle.buffer_book.specs.Book as book
use Rattle.buffer_book.specs.Book.{Book, if_state, is_state, item_at, lent_under, slot_of, with_lent}
use Rattle.endpoint_table.specs.Table as endpoint_table
use Rattle.message_queue.specs.Queue.{Waiting, waiting}
use Rattle.request_set.specs.declared.ask.Complete.{Complete}
use Rattle.request_set.specs.declared.ask.Complete.TheVariants as complete
use Rattle.request_set.specs.Requests.{Requests, Standing}
use Rattle.domain_parts.specs.LaneSeen.{LaneSeen}
use Rattle.domain_parts.specs.declared.endpoints.Endpoint.{Endpoint}
use Rattle.domain_parts.specs.declared.peer.Peer.{Peer}
use Rattle.domain_parts.specs.DomainView.{has_packet_id, place_of_packet_id}
use Rattle.domain_parts.specs.InBook.{channel_in, content_in, endpoint_in, endpoints_in, frames_in, item_in, numbered_at, open_parts, outcome_in, packet_in, packets_in, part_read, priority_in, request_in, requests_in, source_in, whole_at}
use Rattle.domain_parts.specs.InPlaces.{AreInPlaces, AreOpen, IsLentAs, IsOpenAs, is_misplaced, is_same, one_if, slots_of, times_in}
use Rattle.domain_parts.specs.InRequests.{AreReceives}
use Rattle.domain_parts.specs.Out.{Out}
use Rattle.domain_parts.specs.declared.parts.OpenPart.{OpenPart}
use Rattle.domain_parts.specs.Peers.{held_in, peers_in, state_in}
use Rattle.domain_parts.specs.Pieces.{part_with}
use Rattle.domain_parts.specs.Table.{PartRead}
use Rattle.domain_parts.specs.AllMoved.{numbers_of}
use Rattle.domain_parts.specs.Records.{Records, all_waiting, lent_slots, with_last_lent}
use Rattle.domain_parts.specs.Sound.{ArePeers, AreSound, out_at}
use Rattle.domain_parts.specs.Steps.{next_lent}
use Rattle.domain_parts.proofs.Books.{changed-item, each-slot, lent-changes, whole-some}
use Rattle.domain_parts.proofs.GivingLemmas.{All-each, InPlacesAt, SameEndpoints, same-tied}
use Rattle.domain_parts.proofs.Leaving.{each-lent}
use Rattle.domain_parts.proofs.Placed.{HasMore, Stands, in-place, lane-of, no-one, queued-not_lent, stands-of}
use Rattle.domain_parts.proofs.Placing.{lane-lent, lending-others, lending-stands, lending-whole}
use Rattle.domain_parts.proofs.Tables.{All-push}

-- ---- lists

pub get-last : {X : Type 0} (xs : List X) (x : X) → slice_get (xs ++ x ∷ []) (length xs) ≡ Some x
get-last [] x = refl
get-last (y ∷ xs) x = get-last xs x

pub last-get : {X : Type 0} (xs : List X) (x : X) → slice_get (xs ++ x ∷ []) (length (xs ++ x ∷ []) - 1) ≡ Some x
last-get {X} xs x =
    let long = length_push xs x in
    let n : length (xs ++ x ∷ []) - 1 ≡ length xs = omega (arith, long) in
    ap (λ (k : ℕ). slice_get (xs ++ x ∷ []) k) n ∙ get-last xs x

abbrev pub packet_at_place_in : List LentPacket → Option ℕ → Option LentPacket
packet_at_place_in ls place = option_and_then (λ i. slice_get ls i) place

-- ---- where each slot names the same item

module _ (b b' : Book) (same : (s : Slot) (n : ℕ) → item_in b' (waiting s n) ≡ item_in b (waiting s n)) where
  items-same : (ws : List Waiting) → map (item_in b') ws ≡ map (item_in b) ws
  items-same [] = refl
  items-same (w ∷ ws) = ap (λ (x : Item). x ∷ map (item_in b') ws) (same w.slot w.priority) ∙ ap (λ (xs : List Item). item_in b w ∷ xs) (items-same ws)

  pub endpoints-same : (es : List Endpoint) → endpoints_in b' es ≡ endpoints_in b es
  endpoints-same [] = refl
  endpoints-same (e ∷ es) =
      ap (λ (q : List Item). record (endpoint_in b e) { queue = q } ∷ endpoints_in b' es) (items-same e.queue.waiting)
      ∙ ap (λ (xs : List state.Endpoint). endpoint_in b e ∷ xs) (endpoints-same es)

module _ (b b' : Book) (same : (s : Slot) → numbered_at b' s ≡ numbered_at b s) where
  outcome-same : (o : Option Complete) → option_map (outcome_in b') o ≡ option_map (outcome_in b) o
  outcome-same None = refl
  outcome-same (Some (complete.Address address)) = refl
  outcome-same (Some complete.Accepted) = refl
  outcome-same (Some (complete.Rejected reason)) = refl
  outcome-same (Some (complete.Message slot max)) = ap (λ (i : Item). Some (state.has_item i)) (same slot)
  outcome-same (Some (complete.Packet slot)) = ap (λ (i : Item). Some (state.has_item i)) (same slot)
  outcome-same (Some (complete.Ended word)) = refl

  pub requests-same : (rs : List Standing) → requests_in b' rs ≡ requests_in b rs
  requests-same [] = refl
  requests-same (r ∷ rs) =
      ap (λ (o : Option state.Outcome). record (request_in b r) { outcome = o } ∷ requests_in b' rs) (outcome-same r.complete)
      ∙ ap (λ (xs : List state.Request). request_in b r ∷ xs) (requests-same rs)

  pub packets-same : (ids : List PacketId) → packets_in b' ids ≡ packets_in b ids
  packets-same [] = refl
  packets-same (i ∷ ids) =
      ap (λ (x : Item). record { serial = i.serial; item = x } ∷ packets_in b' ids) (same (slot_of i))
      ∙ ap (λ (xs : List LentPacket). packet_in b i ∷ xs) (packets-same ids)

-- ---- an item that is in a queue is lent

module _ (b : Book) (s : Slot) (i : book.Item) (is : item_at b s ≡ Some i) (queued : is_state i.lent None ≡ true) (ss ls : List Slot) (st : Stands ss ls b) where
  abbrev b' : Book
  b' = with_lent b s

  -- it stays
  read-as : (t : Slot) → (source_in (whole_at b' t) ≡ source_in (whole_at b t)) × (channel_in (whole_at b' t) ≡ channel_in (whole_at b t)) × (content_in (whole_at b' t) ≡ content_in (whole_at b t)) × (frames_in (whole_at b' t) ≡ frames_in (whole_at b t)) × (priority_in (whole_at b' t) ≡ priority_in (whole_at b t))
  read-as = each-slot s (λ t. (source_in (whole_at b' t) ≡ source_in (whole_at b t)) × (channel_in (whole_at b' t) ≡ channel_in (whole_at b t)) × (content_in (whole_at b' t) ≡ content_in (whole_at b t)) × (frames_in (whole_at b' t) ≡ frames_in (whole_at b t)) × (priority_in (whole_at b' t) ≡ priority_in (whole_at b t)))
      (let now = lending-whole ss ls b st s i is queued in
      let was = whole-some b s i is in
      (ap source_in now ∙ sym (ap source_in was), ap channel_in now ∙ sym (ap channel_in was), ap content_in now ∙ sym (ap content_in was), ap frames_in now ∙ sym (ap frames_in was), ap priority_in now ∙ sym (ap priority_in was)))
      (λ t differ.
      let same = lending-others ss ls b st s i is queued t differ in
      (ap source_in same, ap channel_in same, ap content_in same, ap frames_in same, ap priority_in same))

  pub item-lent : (t : Slot) (n : ℕ) → item_in b' (waiting t n) ≡ item_in b (waiting t n)
  item-lent t n =
      let read = read-as t in
      ap (λ (x : ℕ). record { peer = t.peer; source = x; priority = n; channel = channel_in (whole_at b' t); content = content_in (whole_at b' t); frames = frames_in (whole_at b' t) }) read.0
      ∙ ap (λ (x : Option ℕ). record { peer = t.peer; source = source_in (whole_at b t); priority = n; channel = x; content = content_in (whole_at b' t); frames = frames_in (whole_at b' t) }) read.1
      ∙ ap (λ (x : List ℕ). record { peer = t.peer; source = source_in (whole_at b t); priority = n; channel = channel_in (whole_at b t); content = x; frames = frames_in (whole_at b' t) }) read.2
      ∙ ap (λ (x : List ℕ). record { peer = t.peer; source = source_in (whole_at b t); priority = n; channel = channel_in (whole_at b t); content = content_in (whole_at b t); frames = x }) read.3

  priority-lent : (t : Slot) → priority_in (whole_at b' t) ≡ priority_in (whole_at b t)
  priority-lent t = (read-as t).4

  pub numbered_at-lent : (t : Slot) → numbered_at b' t ≡ numbered_at b t
  numbered_at-lent t = item-lent t (priority_in (whole_at b' t)) ∙ ap (λ (n : ℕ). item_in b (waiting t n)) (priority-lent t)

  misplaced-lent : (ws : List Waiting) → count_by (is_misplaced b') ws ≡ count_by (is_misplaced b) ws
  misplaced-lent [] = refl
  misplaced-lent (w ∷ ws) =
      count-cons (is_misplaced b') w ws
      ∙ ap (λ (n : ℕ). one_if (not (w.priority == n)) + count_by (is_misplaced b') ws) (priority-lent w.slot)
      ∙ ap (λ (n : ℕ). one_if (is_misplaced b w) + n) (misplaced-lent ws)
      ∙ sym (count-cons (is_misplaced b) w ws)

  -- open parts are read as before
  parts-lent : (os : List OpenPart) → open_parts b' os ≡ open_parts b os
  parts-lent [] = refl
  parts-lent (o ∷ os) =
      let read = read-as o.slot in
      ap (λ (x : List ℕ). record { peer = o.slot.peer; part = part_with o x; names = frames_in (whole_at b' o.slot) } ∷ open_parts b' os) read.2
      ∙ ap (λ (x : List ℕ). record { peer = o.slot.peer; part = part_with o (content_in (whole_at b o.slot)); names = x } ∷ open_parts b' os) read.3
      ∙ ap (λ (xs : List PartRead). part_read b o ∷ xs) (parts-lent os)

  each-open : (os : List OpenPart) → AllByRecursion (IsOpenAs b) os → AllByRecursion (IsOpenAs b') os
  each-open [] all = tt
  each-open (o ∷ os) all =
      let read = read-as o.slot in (
        record {
          size = ap length read.2 ∙ all.0.size;
          source = read.0 ∙ all.0.source;
          priority = read.4 ∙ all.0.priority;
          channel = read.1 ∙ all.0.channel;
          within = all.0.within;
          most = all.0.most;
        },
        each-open os all.1,
      )

  open-lent : (os : List OpenPart) → AreOpen b os → AreOpen b' os
  open-lent os are = record { each = each-open os are.each; apart = are.apart }

  -- it is lent under its id
  abbrev id : PacketId
  id = next_lent b s

  new-lent : IsLentAs b' id
  new-lent =
      ap (λ (o : Option book.Item). is_some (option_and_then (if_state (Some b.lends)) o)) (changed-item (lent-changes b s i is))
      ∙ ap (λ (x : Bool). is_some (cond x (Some (lent_under b.lends i)) None)) (eq-eqb b.lends b.lends refl)

  -- one slot more is lent
  pub lent-more : (r : Records) → HasMore s (lent_slots r) (lent_slots (with_last_lent r id))
  lent-more r test =
      let one = count-cons test s [] in
      let all = count-append test (lent_slots r) (s ∷ []) in
      ap (count_by test) (map_push slot_of r.lent id) ∙ omega (arith, one, all)

  -- ---- it left the queues or the requests

  module _ (r r' : Records) (q q' : Requests) (lends : r'.lent ≡ r.lent) (opens : AreOpen b r.parts → AreOpen b r'.parts) (fewer : HasMore s (slots_of r' q') (slots_of r q)) where
    abbrev r'' : Records
    r'' = with_last_lent r' id

    more : HasMore s (lent_slots r) (lent_slots r'')
    more = subst (λ (ids : List PacketId). HasMore s (map slot_of ids) (lent_slots r'')) lends (lent-more r')

    module _ (few : count_by (is_misplaced b) (all_waiting r'.endpoints) ≤ count_by (is_misplaced b) (all_waiting r.endpoints)) where
      lent-places : (number : ℕ) (o : Out) → AreInPlaces number r q b o → AreInPlaces number r'' q' b' o
      lent-places number o places =
          let st' = stands-of (lent_slots r) number o (slots_of r q) b [] places.each in
          let none = queued-not_lent (slots_of r q) (lent_slots r) b st' s (ap (λ (o : Option book.Item). is_some (option_and_then (if_state None) o)) is ∙ ap (λ (x : Bool). is_some (cond x (Some i) None)) queued) in
          let all = each-lent b b' s (lending-others (slots_of r q) (lent_slots r) b st' s i is queued) r.lent none places.lent in
          record {
            each = in-place (lent_slots r'') number o (slots_of r' q') b' [] (lending-stands (slots_of r q) (lent_slots r) b st' s i is queued (slots_of r' q') (lent_slots r'') fewer more) (lane-lent (slots_of r q) (lent_slots r) b st' s i is queued number o [] (lane-of (lent_slots r) number o (slots_of r q) b [] places.each));
            priorities = misplaced-lent (all_waiting r'.endpoints) ∙ (let was = places.priorities in omega (arith, was, few));
            lent = All-push (IsLentAs b') r'.lent id (subst (AllByRecursion (IsLentAs b')) (sym lends) all) new-lent;
            parts = open-lent r'.parts (opens places.parts);
          }

      pub lent-sound : {L : Type 0} (v : L → LaneSeen) (t : endpoint_table.Table) (ps : List (Peer L)) → SameEndpoints r r' → AreReceives q' → AreSound v b r q t ps → AreSound v b' r'' q' t ps
      lent-sound {L} v t ps same receives sound =
          record {
            peers = subst (λ (n : ℕ). ArePeers v n ps) (sym same.number) sound.peers;
            places = All-each (InPlacesAt v b r q) (InPlacesAt v b' r'' q') (λ p places. lent-places p.number (out_at v p) places) ps sound.places;
            shelves = λ n there. sound.shelves n (sym ((lent-changes b s i is).shelves n) ∙ there);
            room = let room = sound.room in let same_room = same.room in omega (arith, room, same_room);
            receives = receives;
            tied = same-tied r r'' t (numbers_of ps) (record { number = same.number; given = same.given; room = same.room; live = same.live }) sound.tied;
            given = let given = sound.given in let same_given = same.given in omega (arith, given, same_given);
          }

    -- what it is in the state
    pub lent-state : {L : Type 0} (v : L → LaneSeen) (t : endpoint_table.Table) (ps : List (Peer L)) → state_in v b' r'' q' t ps ≡ changed (state_in v b r' q' t ps) (packet_lent (numbered_at b s))
    lent-state v t ps =
        let u = state_in v b r' q' t ps in
        let next = (b.lends + 1) % 2 ^ 64 in
        ap (λ (os : List PartRead). record (state_in v b' r'' q' t ps) { peers = peers_in v os t ps; held = held_in os }) (parts-lent r'.parts)
        ∙ ap (λ (es : List state.Endpoint). record u { endpoints = es; requests = requests_in b' q'.standing; lent = packets_in b' r''.lent; packets_lent = next }) (endpoints-same b b' item-lent r'.endpoints)
        ∙ ap (λ (rs : List state.Request). record u { requests = rs; lent = packets_in b' r''.lent; packets_lent = next }) (requests-same b b' numbered_at-lent q'.standing)
        ∙ ap (λ (ls : List LentPacket). record u { lent = ls; packets_lent = next }) (packets-same b b' numbered_at-lent r''.lent ∙ map_push (packet_in b) r'.lent id)

  -- ---- what is told of it

  module _ (ids : List PacketId) (none : times_in s (map slot_of ids) ≡ 0) where
    other-ids : (is : List PacketId) → times_in s (map slot_of is) ≡ 0 → AllByRecursion (λ i. has_packet_id id i ≡ false) is
    other-ids [] e = tt
    other-ids (i ∷ is) e =
        let sum = count-cons (λ (t : Slot). is_same t s) (slot_of i) (map slot_of is) in
        let here : one_if (is_same (slot_of i) s) ≡ 0 = omega (arith, sum, e) in
        (by (i.peer == s.peer) (i.buffer == s.buffer) (i.serial == b.lends) (no-one (is_same (slot_of i) s) here), other-ids is (omega (arith, sum, e)))
      where
        by : (x y z : Bool) → (x && y) ≡ false → (x && (y && z)) ≡ false
        by true true z h = absurd cc
        by true false z h = refl
        by false y z h = refl

    itself : has_packet_id id id ≡ true
    itself = ap₂ (λ (x y : Bool). x && (y && (b.lends == b.lends))) (eq-eqb s.peer s.peer refl) (eq-eqb s.buffer s.buffer refl) ∙ eq-eqb b.lends b.lends refl

    place-last : (n : ℕ) (is : List PacketId) → AllByRecursion (λ i. has_packet_id id i ≡ false) is → position_from (has_packet_id id) n (is ++ id ∷ []) ≡ Some (n + length is)
    place-last n [] all = ap (λ (x : Bool). cond x (Some n) None) itself ∙ ap (λ (m : ℕ). Some m) (omega arith)
    place-last n (i ∷ is) all =
        ap (λ (x : Bool). cond x (Some n) (position_from (has_packet_id id) (n + 1) (is ++ id ∷ []))) all.0
        ∙ place-last (n + 1) is all.1 ∙ ap (λ (m : ℕ). Some m) (omega arith)

    pub place-new : place_of_packet_id (ids ++ id ∷ []) id ≡ Some (length ids)
    place-new = position_from-zero (has_packet_id id) (ids ++ id ∷ []) ∙ place-last 0 ids (other-ids ids none) ∙ ap (λ (m : ℕ). Some m) (omega arith)

    pub packet-new : packet_at_place_in (packets_in b' (ids ++ id ∷ [])) (place_of_packet_id (ids ++ id ∷ []) id) ≡ Some (record { serial = b.lends; item = numbered_at b s })
    packet-new =
        ap (λ (o : Option ℕ). option_and_then (λ i. slice_get (packets_in b' (ids ++ id ∷ [])) i) o) place-new
        ∙ ap (λ (ls : List LentPacket). slice_get ls (length ids)) (map_push (packet_in b') ids id)
        ∙ ap (λ (n : ℕ). slice_get (packets_in b' ids ++ packet_in b' id ∷ []) n) (sym (length-map ids (packet_in b')))
        ∙ get-last (packets_in b' ids) (packet_in b' id)
        ∙ ap (λ (x : Item). Some (record { serial = b.lends; item = x })) (numbered_at-lent s)
