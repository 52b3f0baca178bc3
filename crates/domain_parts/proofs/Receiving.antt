-- Calls that receive messages or end requests, after their turns: what they leave, and what is kept.
use Rattle.std.proofs.Common.{◌≡◌, ℕ, ◌+◌, ◌<◌, ◌≤◌, List, [], ◌∷◌, ◌++◌, length, Option, Some, None, sym, ap, ◌∙◌, arith, refl}
use Rattle.std.specs.Prelude.{option_and_then, option_map, slice_get, ◌%◌, ◌^◌}
use Rattle.std.specs.List.{AllByRecursion}
use Rattle.std.proofs.lemmas.List.{map_push}
use Rattle.mc_base.specs.Limits.{item_size}
use Rattle.mc_base.specs.declared.name.Local.{Local}
use Rattle.mc_base.specs.declared.request.RequestId.{RequestId}
use Rattle.mc_base.specs.declared.request.Slot.{Slot}
use Rattle.board_model.specs.Lists.{changed}
use Rattle.board_model.specs.State as state
use Rattle.board_model.specs.State.{DomainState, Item, Outcome, has_item, message_at, place_at, queue_in, request_at_place, LentPacket}
use Rattle.board_model.specs.Choice.{best}
use Rattle.board_model.specs.Answer.{local}
use Rattle.domain_parts.specs.PlacedCalls.{best_queued, received, with_received, with_request}
use Rattle.buffer_book.specs.Book.{Book, IsQueued}
use Rattle.endpoint_table.specs.Table as endpoint_table
use Rattle.message_queue.specs.Queue.{Waiting, waiting}
use Rattle.request_set.specs.declared.ask.Ask.TheVariants as ask
use Rattle.request_set.specs.declared.ask.Complete.{Complete}
use Rattle.request_set.specs.declared.ask.Complete.TheVariants as complete
use Rattle.request_set.specs.Requests.{Requests, without_request}
use Rattle.domain_parts.specs.LaneSeen.{LaneSeen}
use Rattle.domain_parts.specs.declared.parts.OpenPart.{OpenPart}
use Rattle.domain_parts.specs.declared.peer.Peer.{Peer}
use Rattle.domain_parts.specs.GivingBack.{AreOutAt, GivesBack}
use Rattle.domain_parts.specs.InBook.{content_in, endpoints_in, frames_at, item_in, numbered_at, open_parts, outcome_in, packets_in, request_in, requests_in, whole_at}
use Rattle.domain_parts.specs.InPlaces.{slots_of, times_in}
use Rattle.domain_parts.specs.InRequests.{AreReceives, handed_slots}
use Rattle.domain_parts.specs.LaneMoves.{LaneMove}
use Rattle.domain_parts.specs.Peers.{held_in, peers_in, state_in}
use Rattle.domain_parts.specs.Table.{PartRead}
use Rattle.domain_parts.specs.Records.{Records, all_waiting, part_slots, waiting_in, with_best_taken_at}
use Rattle.domain_parts.specs.Sound.{AreSound, out_at}
use Rattle.domain_parts.specs.Steps.{with_last, without_frames}
use Rattle.domain_parts.proofs.Beginning.{last-more, new_standing, pending-same}
use Rattle.domain_parts.proofs.Ending.{left-receives}
use Rattle.domain_parts.proofs.GivingLemmas.{All-at, InPlacesAt, all-stand, best-same, given-peers, leaves-out, same-endpoints, some-lane, sound-given, sound-moved, stands-queued}
use Rattle.domain_parts.proofs.Books.{without-lends}
use Rattle.domain_parts.proofs.Leaving.{left-endpoints, left-packets, left-parts, left-requests}
use Rattle.domain_parts.proofs.Placed.{HasMore, HaveSame, times-here}
use Rattle.domain_parts.proofs.Queuing.{ended-more, received-fewer, received-more, received-priority}
use Rattle.domain_parts.proofs.Slots.{handed-has, handed-same}
use Rattle.domain_parts.proofs.Waits.{best-there, endpoints-less}

-- ---- an item is given back

module _ {L : Type 0} (M : L → List LaneMove → L → Type 0) (m-none : (l : L) → M l [] l) (v : L → LaneSeen) (b : Book) (r r' : Records) (q q' : Requests) (t : endpoint_table.Table) (s : Slot) (ps ps' : List (Peer L)) (gives : GivesBack M v s.peer (frames_at b s) ps ps') where
  abbrev before : DomainState
  before = state_in v b r q t ps

  abbrev left_book : Book
  left_book = without_frames b s None (frames_at b s)

  -- what is held is read as before, though an item is no more in the book, and the parts that are open are those of the records
  pub given-read : HasMore s (slots_of r' q') (slots_of r q) → AllByRecursion (InPlacesAt v b r q) ps → q'.given ≡ q.given → r'.channels ≡ r.channels → r'.lent ≡ r.lent
      → state_in v left_book r' q' t ps' ≡ record before { endpoints = endpoints_in b r'.endpoints; requests = requests_in b q'.standing; peers = peers_in v (open_parts b r'.parts) t ps; held = held_in (open_parts b r'.parts) }
  given-read more places given numbered lends =
      let p = gives.peer in
      let here = All-at (InPlacesAt v b r q) ps gives.place p places gives.there in
      let now : List PartRead = open_parts b r'.parts in
      let made : List state.Endpoint → List state.Peer → List state.Request → ℕ → DomainState = λ es xs rs n. record before { endpoints = es; peers = xs; requests = rs; requests_given = n; held = held_in now } in
      ap (λ (os : List PartRead). record (state_in v left_book r' q' t ps') { peers = peers_in v os t ps'; held = held_in os }) (left-parts r r' q q' b s more p.number (out_at v p) here)
      ∙ ap (λ (n : ℕ). record (state_in v left_book r' q' t ps') { peers = peers_in v now t ps'; held = held_in now; packets_lent = n }) (without-lends b s None (frames_at b s))
      ∙ ap (λ (n : ℕ). record (state_in v left_book r' q' t ps') { peers = peers_in v now t ps'; held = held_in now; channels_given = n; packets_lent = b.lends }) numbered
      ∙ ap (λ (xs : List LentPacket). record (state_in v left_book r' q' t ps') { peers = peers_in v now t ps'; held = held_in now; channels_given = r.channels; lent = xs; packets_lent = b.lends }) (left-packets r r' q q' b s more p.number (out_at v p) here lends ∙ ap (packets_in b) lends)
      ∙ ap (λ (es : List state.Endpoint). made es (peers_in v now t ps') (requests_in left_book q'.standing) q'.given) (left-endpoints r r' q q' b s more p.number (out_at v p) here)
      ∙ ap (λ (xs : List state.Peer). made (endpoints_in b r'.endpoints) xs (requests_in left_book q'.standing) q'.given) (given-peers M v s.peer (frames_at b s) ps ps' gives now t)
      ∙ ap (λ (rs : List state.Request). made (endpoints_in b r'.endpoints) (peers_in v now t ps) rs q'.given) (left-requests r r' q q' b s more p.number (out_at v p) here)
      ∙ ap (λ (n : ℕ). made (endpoints_in b r'.endpoints) (peers_in v now t ps) (requests_in b q'.standing) n) given

  -- and where they are the same, so are the peers
  pub given-state : HasMore s (slots_of r' q') (slots_of r q) → AllByRecursion (InPlacesAt v b r q) ps → q'.given ≡ q.given → r'.channels ≡ r.channels → r'.lent ≡ r.lent → r'.parts ≡ r.parts → state_in v left_book r' q' t ps' ≡ record before { endpoints = endpoints_in b r'.endpoints; requests = requests_in b q'.standing }
  given-state more places given numbered lends opens =
      given-read more places given numbered lends
      ∙ ap (λ (os : List OpenPart). record before { endpoints = endpoints_in b r'.endpoints; requests = requests_in b q'.standing; peers = peers_in v (open_parts b os) t ps; held = held_in (open_parts b os) }) opens

-- an item is short
pub content-fits : {L : Type 0} (v : L → LaneSeen) (b : Book) (r : Records) (q : Requests) (t : endpoint_table.Table) (ps : List (Peer L)) → AreSound v b r q t ps → (s : Slot) → length (content_in (whole_at b s)) ≤ item_size
content-fits v b r q t ps sound s = (all-stand v b r q t ps sound).short s

-- ---- the best message at an endpoint

module _ {L : Type 0} (v : L → LaneSeen) (b : Book) (r : Records) (q : Requests) (t : endpoint_table.Table) (ps : List (Peer L)) (sound : AreSound v b r q t ps) (i : ℕ) (w : Waiting) (is : best (λ (x : Waiting). x.priority) (waiting_in (slice_get r.endpoints i)) ≡ Some w) where
  stands : 0 < times_in w.slot (slots_of r q)
  stands = let one = times-here w.slot (slots_of (with_best_taken_at r i) q) (slots_of r q) (received-more r q b i w is) in omega (arith, one)

  pub best-queued : IsQueued b w.slot
  best-queued = stands-queued v b r q t ps sound w.slot stands

  pub best-out : AreOutAt v w.slot.peer (frames_at b w.slot) ps
  best-out = leaves-out v b r q t ps sound (with_best_taken_at r i) q w.slot refl (λ are. are) (received-more r q b i w is) (received-fewer r q b i w is)

  -- its frame says its priority
  pub best-item : numbered_at b w.slot ≡ item_in b w
  best-item =
      let lane = some-lane v b r q t ps sound in
      ap (λ (n : ℕ). item_in b (waiting w.slot n)) (sym (received-priority r q b i w is lane.0.number (out_at v lane.0) lane.1))

  module _ (at : Local) (there : Some i ≡ place_at (state_in v b r q t ps) at) where
    abbrev now : DomainState
    now = state_in v b r q t ps

    pub best-is : best_queued now at ≡ Some (item_in b w)
    best-is =
        ap (λ (o : Option ℕ). best (λ (x : Item). x.priority) (queue_in (option_and_then (λ j. slice_get (endpoints_in b r.endpoints) j) o))) (sym there)
        ∙ best-there b r.endpoints i w is

    -- it is gone
    pub best-taken : endpoints_in b (with_best_taken_at r i).endpoints ≡ changed received (place_at now at) (endpoints_in b r.endpoints)
    best-taken = endpoints-less b r.endpoints i ∙ ap (λ (o : Option ℕ). changed received o (endpoints_in b r.endpoints)) there

  -- ---- it is given to a caller

  pub taken-sound : (M : L → List LaneMove → L → Type 0) (ps' : List (Peer L)) → GivesBack M v w.slot.peer (frames_at b w.slot) ps ps' → AreSound v (without_frames b w.slot None (frames_at b w.slot)) (with_best_taken_at r i) q t ps'
  taken-sound M ps' gives = sound-given M v b r (with_best_taken_at r i) q q t w.slot ps ps' gives (best-same r i) refl (λ are. are) (received-more r q b i w is) (received-fewer r q b i w is) sound.receives sound

  -- ---- it goes to a request that is new

  abbrev taken_by : RequestId → Local → ℕ → Requests
  taken_by id at max = with_last q id (ask.Message at max) (Some (complete.Message w.slot max))

  pub handed-sound : (id : RequestId) (at : Local) (max : ℕ) → AreReceives (taken_by id at max) → AreSound v b (with_best_taken_at r i) (taken_by id at max) t ps
  handed-sound id at max receives =
      let q' = taken_by id at max in
      let r' = with_best_taken_at r i in
      sound-moved v b r r' q q' t ps (best-same r i) refl (λ are. are)
      (λ test. let less = received-more r q b i w is test in let more = handed-has w.slot (part_slots r.parts) (all_waiting r'.endpoints) (handed_slots q.standing) (handed_slots q'.standing) (last-more q id (ask.Message at max) w.slot (complete.Message w.slot max) refl) test in omega (arith, less, more))
      (received-fewer r q b i w is) receives sound

-- ---- a receive is begun

module _ {L : Type 0} (v : L → LaneSeen) (b : Book) (r : Records) (q : Requests) (t : endpoint_table.Table) (ps : List (Peer L)) (i : ℕ) (id : RequestId) (node port max : ℕ) (o : Option Complete)
    (there : Some i ≡ place_at (state_in v b r q t ps) (local node port)) (serial : id.serial ≡ q.given) where
  abbrev at : Local
  at = local node port

  abbrev s : DomainState
  s = state_in v b r q t ps

  abbrev q' : Requests
  q' = with_last q id (ask.Message at max) o

  pub begun-state : option_map (outcome_in b) o ≡ option_map has_item (best_queued s at) → state_in v b (with_best_taken_at r i) q' t ps ≡ with_request (with_received s at) (message_at at max) (option_map has_item (best_queued s at))
  begun-state outcome =
      let given = (q.given + 1) % 2 ^ 64 in
      let es = changed received (place_at s at) (endpoints_in b r.endpoints) in
      let made : List state.Request → DomainState = λ rs. record s { endpoints = es; requests = rs; requests_given = given } in
      let new : ℕ → Option Outcome → List state.Request = λ n how. requests_in b q.standing ++ record { serial = n; asked = message_at at max; outcome = how } ∷ [] in
      ap (λ (xs : List state.Endpoint). record s { endpoints = xs; requests = requests_in b q'.standing; requests_given = given }) (endpoints-less b r.endpoints i ∙ ap (λ (p : Option ℕ). changed received p (endpoints_in b r.endpoints)) there)
      ∙ ap made (map_push (request_in b) q.standing (new_standing id (ask.Message at max) o))
      ∙ ap (λ (n : ℕ). made (new n (option_map (outcome_in b) o))) serial
      ∙ ap (λ (how : Option Outcome). made (new q.given how)) outcome

-- no message was there
pub pending-sound : {L : Type 0} (v : L → LaneSeen) (b : Book) (r : Records) (q : Requests) (t : endpoint_table.Table) (ps : List (Peer L)) (id : RequestId) (at : Local) (max : ℕ) → AreReceives (with_last q id (ask.Message at max) None) → AreSound v b r q t ps → AreSound v b r (with_last q id (ask.Message at max) None) t ps
pending-sound v b r q t ps id at max receives sound =
    let q' = with_last q id (ask.Message at max) None in
    sound-moved v b r r q q' t ps (same-endpoints r) refl (λ are. are) (handed-same (part_slots r.parts) (all_waiting r.endpoints) (handed_slots q.standing) (handed_slots q'.standing) (pending-same q id (ask.Message at max))) (omega arith) receives sound

-- ---- a request ends

module _ {L : Type 0} (v : L → LaneSeen) (b : Book) (r : Records) (q : Requests) (t : endpoint_table.Table) (ps : List (Peer L)) (id : RequestId) (sound : AreSound v b r q t ps) where
  abbrev left : Requests
  left = without_request q id

  -- one that held no message
  pub quiet-sound : HaveSame (handed_slots q.standing) (handed_slots left.standing) → AreSound v b r left t ps
  quiet-sound same = sound-moved v b r r q left t ps (same-endpoints r) refl (λ are. are) (handed-same (part_slots r.parts) (all_waiting r.endpoints) (handed_slots q.standing) (handed_slots left.standing) same) (omega arith) (left-receives q id sound.receives) sound

  -- one that held a message
  module _ (slot : Slot) (fewer : HasMore slot (handed_slots left.standing) (handed_slots q.standing)) where
    held-stands : 0 < times_in slot (slots_of r q)
    held-stands = let one = times-here slot (slots_of r left) (slots_of r q) (ended-more r q left b slot fewer) in omega (arith, one)

    pub held-queued : IsQueued b slot
    held-queued = stands-queued v b r q t ps sound slot held-stands

    pub held-out : AreOutAt v slot.peer (frames_at b slot) ps
    held-out = leaves-out v b r q t ps sound r left slot refl (λ are. are) (ended-more r q left b slot fewer) (omega arith)

    module _ (M : L → List LaneMove → L → Type 0) (ps' : List (Peer L)) (gives : GivesBack M v slot.peer (frames_at b slot) ps ps') where
      pub tested-sound : AreSound v (without_frames b slot None (frames_at b slot)) r left t ps'
      tested-sound = sound-given M v b r r q left t slot ps ps' gives (same-endpoints r) refl (λ are. are) (ended-more r q left b slot fewer) (omega arith) (left-receives q id sound.receives) sound
