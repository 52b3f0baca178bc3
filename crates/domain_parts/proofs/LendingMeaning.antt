-- What the steps mean by which packets are lent and requested.
use Rattle.domain_parts.proofs.Queuing.{ended-more}
use Rattle.domain_parts.proofs.Meaning.{left-ids}
use Rattle.domain_parts.proofs.Receives.{map-without}
use Rattle.board_model.specs.Labels.{packet_tested}
use Rattle.board_model.specs.Lists.{changed_at}
use Rattle.domain_parts.specs.AllMoved.{moves_at}
use Rattle.domain_parts.specs.InRequests.{AreReceives, handed_slots}
use Rattle.domain_parts.specs.declared.endpoints.Endpoint.{Endpoint}
use Rattle.domain_parts.specs.InPlaces.{slots_of, times_in}
use Rattle.std.proofs.Common.{◌≡◌, ℕ, ◌+◌, true, List, [], ◌∷◌, drop, length, map, Option, Some, None, refl, sym, ap, ◌∙◌, subst, arith, ◌<◌, zero, suc}
use Rattle.std.specs.Prelude.{is_some, option_map, slice_get}
use Rattle.std.proofs.lemmas.List.{append-nil}
use Rattle.mc_base.specs.declared.name.Local.{Local}
use Rattle.mc_base.specs.declared.request.PacketId.{PacketId}
use Rattle.mc_base.specs.declared.request.RequestId.{RequestId}
use Rattle.mc_base.specs.declared.request.Slot.{Slot}
use Rattle.board_model.specs.Answer.{lent_whole, success, result_of}
use Rattle.board_model.specs.CallChanges.{at_live, lending, success_changes, held_by, lent_by_test}
use Rattle.board_model.specs.Change.{changed, changed_all, oldest_gone, packet_lent, request_added, with_queue, request_gone}
use Rattle.board_model.specs.Choice.{oldest}
use Rattle.board_model.specs.DomainCall.{lend_at, packet_request_at, test_of}
use Rattle.board_model.specs.State as state
use Rattle.board_model.specs.State.{DomainState, Item, LentPacket, live_at, place_at, queue_at, queue_in, is_at, request_at_place}
use Rattle.board_model.proofs.MessageAlls.{found-passes}
use Rattle.board_model.proofs.StateEnds.{by_address, named_so}
use Rattle.buffer_book.specs.Book as book
use Rattle.buffer_book.specs.Book.{Book, IsQueued, is_state, item_at, slot_of, with_lent}
use Rattle.message_queue.specs.Queue.{Waiting}
use Rattle.request_set.specs.declared.ask.Ask.TheVariants as ask
use Rattle.request_set.specs.declared.ask.Complete.TheVariants as complete
use Rattle.request_set.specs.Requests.{Requests}
use Rattle.domain_parts.specs.LaneSeen.{LaneSeen}
use Rattle.domain_parts.specs.declared.peer.Peer.{Peer}
use Rattle.domain_parts.specs.Calls.{IsFresh, gives_whole, brings_whole}
use Rattle.domain_parts.specs.CallSteps.{Means, call_steps, if_some, oldest_slot, requesting, ending, how_held}
use Rattle.domain_parts.specs.DomainView.{place_of_packet_id}
use Rattle.domain_parts.specs.InBook.{endpoints_in, numbered_at, packets_in, request_in}
use Rattle.domain_parts.specs.Parts.{Parts, Sound, plain, state_of}
use Rattle.domain_parts.specs.Peers.{state_in}
use Rattle.domain_parts.specs.Records.{Records, lent_slots, waiting_in, with_last_lent, with_oldest_taken_at, all_waiting, with_oldest_taken, part_slots}
use Rattle.domain_parts.specs.Steps.{Step, all_moves, done, done_all, next_lent, oldest_lent, packet_begun, with_last, request_begun, packet_ended, step_moves, without_at}
use Rattle.domain_parts.proofs.Asking.{asked-state}
use Rattle.domain_parts.proofs.Beginning.{last-ids, last-more}
use Rattle.domain_parts.proofs.CallsAgree.{at-live, there_at}
use Rattle.domain_parts.proofs.ChannelMeaning.{changed-there}
use Rattle.domain_parts.proofs.DataMeaning.{oldest-there, no-oldest}
use Rattle.domain_parts.proofs.Deleting.{endpoints-oldest, oldest-fewer, oldest-more, oldest-queued}
use Rattle.domain_parts.proofs.Ending.{ids_in}
use Rattle.domain_parts.proofs.GivingLemmas.{all-stand, oldest-same, same-endpoints, sound-moved}
use Rattle.domain_parts.proofs.Lending.{lent-sound, lent-state, packet-new, packet_at_place_in}
use Rattle.domain_parts.proofs.Fitting.{held-room}
use Rattle.domain_parts.proofs.Placed.{HasMore, Stands, queued-not_lent, queued-same}
use Rattle.domain_parts.proofs.Slots.{handed-has, length-more}
use Rattle.domain_parts.proofs.StateFits.{ends-of}
use Rattle.domain_parts.proofs.Stepping.{quiet-peers}

pub some-of : {X : Type 0} (o : Option X) → is_some o ≡ true → (x : X) × (o ≡ Some x)
some-of None is = absurd cc
some-of (Some x) is = (x, refl)

-- what is in a queue is not lent
none-of_it : (p : Parts) → Sound p → (s : Slot) → IsQueued p.book s → times_in s (map slot_of p.records.lent) ≡ 0
none-of_it p sound s is = queued-not_lent (slots_of p.records p.requests) (lent_slots p.records) p.book (all-stand plain p.book p.records p.requests p.table p.peers sound) s is

-- there is room for it
pub lent-fits : (p : Parts) → Sound p → (n : ℕ) → length (slots_of p.records p.requests) ≡ n + 1 → length p.records.lent < p.records.room
lent-fits p sound n one = let fit = held-room plain p.book p.records p.requests p.table p.peers sound in omega (arith, one, fit)

-- where nothing is the oldest, nothing is taken
pub oldest-none : (es : List Endpoint) (i : ℕ) → None ≡ option_map (λ (w : Waiting). w.slot) (oldest (waiting_in (slice_get es i))) → changed_at with_oldest_taken i es ≡ es
oldest-none [] i none = refl
oldest-none (e ∷ es) zero none = go e.queue.waiting refl none
  where
    go : (ws : List Waiting) → e.queue.waiting ≡ ws → None ≡ option_map (λ (w : Waiting). w.slot) (oldest ws) → with_oldest_taken e ∷ es ≡ e ∷ es
    go [] is n = ap (λ (ws : List Waiting). record e { queue = record e.queue { waiting = drop 1 ws } } ∷ es) is ∙ ap (λ (ws : List Waiting). record e { queue = record e.queue { waiting = ws } } ∷ es) (sym is)
    go (w ∷ ws) is n = absurd cc
oldest-none (e ∷ es) (suc i) none = ap (λ (xs : List Endpoint). e ∷ xs) (oldest-none es i none)

-- ---- the oldest packet at a place

module _ (p : Parts) (sound : Sound p) (i : ℕ) (s : Slot) (first : Some s ≡ option_map (λ (w : Waiting). w.slot) (oldest (waiting_in (slice_get p.records.endpoints i)))) where
  abbrev r' : Records
  r' = with_oldest_taken_at p.records i

  abbrev id : PacketId
  id = next_lent p.book s

  its-queued : IsQueued p.book s
  its-queued = oldest-queued plain p.book p.records p.requests p.table p.peers i s sound first

  it : (x : book.Item) × (item_at p.book s ≡ Some x) × (is_state x.lent None ≡ true)
  it = queued-same (item_at p.book s) its-queued

  st : Stands (slots_of p.records p.requests) (lent_slots p.records) p.book
  st = all-stand plain p.book p.records p.requests p.table p.peers sound

  more : HasMore s (slots_of r' p.requests) (slots_of p.records p.requests)
  more = oldest-more plain p.book p.records p.requests p.table p.peers i s sound first

  pub room-left : length p.records.lent < p.records.room
  room-left = lent-fits p sound (length (slots_of r' p.requests)) (length-more s (slots_of r' p.requests) (slots_of p.records p.requests) more)

  abbrev now : Parts
  now = done (oldest_lent i id) p

  pub now-is : now ≡ record { book = with_lent p.book s; records = with_last_lent r' id; requests = p.requests; table = p.table; peers = p.peers }
  now-is =
      ap (λ (ps : List (Peer LaneSeen)). record { book = with_lent p.book s; records = with_last_lent r' id; requests = p.requests; table = p.table; peers = ps }) (quiet-peers p.peers)

  pub oldest_lent-keeps : Sound now
  oldest_lent-keeps =
      subst Sound (sym now-is)
      (lent-sound p.book s it.0 it.1 it.2 (slots_of p.records p.requests) (lent_slots p.records) st p.records r' p.requests p.requests refl (λ are. are) more (oldest-fewer plain p.book p.records p.requests p.table p.peers i s sound first) plain p.table p.peers (oldest-same p.records i) sound.receives sound)

  module _ (at : Local) (there : place_at (state_of p) at ≡ Some i) where
    abbrev the : (e : state.Endpoint) × (live_at (state_of p) at ≡ Some e)
    the = there_at (state_of p) at i there

    -- without it
    pub less-state : state_in plain p.book r' p.requests p.table p.peers ≡ changed (state_of p) (oldest_gone the.0.address)
    less-state =
        let by = by_address at (state_of p).endpoints the.0 (ends-of plain p.book p.records p.requests p.table p.peers sound).apart the.1 in
        ap (λ (es : List state.Endpoint). record (state_of p) { endpoints = es }) (endpoints-oldest p.book p.records.endpoints i ∙ changed-there p at i the.0 there by.changes (with_queue (drop 1)))

    pub front-is : oldest the.0.queue ≡ Some (numbered_at p.book s)
    front-is = ap (λ (q : List Item). oldest q) (sym (ap queue_in (at-live (state_of p) at ∙ the.1))) ∙ oldest-there p sound at i there s first

    -- ---- it is lent

    pub lend-steps : call_steps p at.node (lend_at at.port) None ≡ oldest_lent i id ∷ []
    lend-steps =
        ap (λ (o : Option ℕ). if_some o (λ j. if_some (oldest_slot p j) (λ x. oldest_lent j (next_lent p.book x) ∷ []))) there
        ∙ ap (λ (o : Option Slot). if_some o (λ x. oldest_lent i (next_lent p.book x) ∷ [])) (sym first)

    lend-state : state_of now ≡ changed_all (state_of p) (success_changes (state_of p) at.node (lend_at at.port))
    lend-state =
        ap state_of now-is
        ∙ lent-state p.book s it.0 it.1 it.2 (slots_of p.records p.requests) (lent_slots p.records) st p.records r' p.requests p.requests refl (λ are. are) more plain p.table p.peers
        ∙ ap (λ (u : DomainState). changed u (packet_lent (numbered_at p.book s))) less-state
        ∙ sym (ap (λ (o : Option Item). changed_all (state_of p) (oldest_gone the.0.address ∷ lending o)) front-is)
        ∙ sym (ap (λ (o : Option state.Endpoint). changed_all (state_of p) (at_live o (λ e. oldest_gone e.address ∷ lending (oldest e.queue)))) the.1)

    pub lend-means : Means p at.node (lend_at at.port) None
    lend-means =
        let steps = lend-steps in
        record {
          state = ap (λ (cs : List Step). state_of (done_all cs p)) steps ∙ lend-state;
          moves = λ n. ap (λ (cs : List Step). all_moves cs n) steps;
          ids = ap (λ (cs : List Step). ids_in (done_all cs p).requests) steps ∙ sym (append-nil (ids_in p.requests));
          fresh = tt;
          lent = Some id;
          packets = ap (λ (cs : List Step). (done_all cs p).records.lent) steps;
          lends = refl;
        }

    -- and told by its bytes
    none-lent : times_in s (map slot_of p.records.lent) ≡ 0
    none-lent = none-of_it p sound s its-queued

    pub lend-answer : gives_whole (packet_at_place_in (packets_in now.book now.records.lent) (place_of_packet_id now.records.lent id)) ≡ success (state_of p) at.node (lend_at at.port)
    lend-answer =
        ap gives_whole (packet-new p.book s it.0 it.1 it.2 (slots_of p.records p.requests) (lent_slots p.records) st p.records.lent none-lent)
        ∙ sym (ap lent_whole (oldest-there p sound at i there s first))

    -- ---- it is a request's

    module _ (rid : RequestId) (fresh : IsFresh (ids_in p.requests) (state_of p) rid) where
      abbrev q' : Requests
      q' = with_last p.requests rid (ask.Packet at) (Some (complete.Packet s))

      pub requested-steps : call_steps p at.node (packet_request_at at.port) (Some rid) ≡ packet_begun i s rid at ∷ []
      requested-steps =
          ap (λ (o : Option ℕ). if_some o (λ j. requesting j (oldest_slot p j) rid at ∷ [])) there
          ∙ ap (λ (o : Option Slot). requesting i o rid at ∷ []) (sym first)

      requested-state : state_of (done (packet_begun i s rid at) p) ≡ changed_all (state_of p) (success_changes (state_of p) at.node (packet_request_at at.port))
      requested-state =
          let own = named_so at the.0 (found-passes (is_at at) (state_of p).endpoints the.0 the.1) in
          ap (λ (ps : List (Peer LaneSeen)). state_in plain p.book r' q' p.table ps) (quiet-peers p.peers)
          ∙ asked-state plain p.book r' p.requests p.table p.peers rid (ask.Packet at) (Some (complete.Packet s)) fresh.serial
          ∙ ap (λ (u : DomainState). changed u (request_added (state.packet_at at) (Some (state.has_item (numbered_at p.book s))))) less-state
          ∙ ap (λ (l : Local). changed_all (state_of p) (oldest_gone the.0.address ∷ request_added (state.packet_at l) (Some (state.has_item (numbered_at p.book s))) ∷ [])) (sym own)
          ∙ sym (ap (λ (o : Option Item). changed_all (state_of p) (oldest_gone the.0.address ∷ request_added (state.packet_at the.0.local) (option_map state.has_item o) ∷ [])) front-is)
          ∙ sym (ap (λ (o : Option state.Endpoint). changed_all (state_of p) (at_live o (λ e. oldest_gone e.address ∷ request_added (state.packet_at e.local) (option_map state.has_item (oldest e.queue)) ∷ []))) the.1)

      pub requested-means : Means p at.node (packet_request_at at.port) (Some rid)
      requested-means =
          let steps = requested-steps in
          record {
            state = ap (λ (cs : List Step). state_of (done_all cs p)) steps ∙ requested-state;
            moves = λ n. ap (λ (cs : List Step). all_moves cs n) steps;
            ids = ap (λ (cs : List Step). ids_in (done_all cs p).requests) steps ∙ last-ids p.requests rid (ask.Packet at) (Some (complete.Packet s));
            fresh = fresh;
            lent = None;
            packets = ap (λ (cs : List Step). (done_all cs p).records.lent) steps ∙ sym (append-nil p.records.lent);
            lends = refl;
          }

  pub requested-sound : (rid : RequestId) (at : Local) → AreReceives (with_last p.requests rid (ask.Packet at) (Some (complete.Packet s))) → Sound (record p { records = r'; requests = with_last p.requests rid (ask.Packet at) (Some (complete.Packet s)) })
  requested-sound rid at receives =
      let q' = with_last p.requests rid (ask.Packet at) (Some (complete.Packet s)) in
      sound-moved plain p.book p.records r' p.requests q' p.table p.peers (oldest-same p.records i) refl (λ are. are)
      (λ test. let less = more test in let has = handed-has s (part_slots p.records.parts) (all_waiting r'.endpoints) (handed_slots p.requests.standing) (handed_slots q'.standing) (last-more p.requests rid (ask.Packet at) s (complete.Packet s) refl) test in omega (arith, less, has))
      (oldest-fewer plain p.book p.records p.requests p.table p.peers i s sound first) receives sound

-- ---- no packet is queued

module _ (p : Parts) (sound : Sound p) (at : Local) (i : ℕ) (there : place_at (state_of p) at ≡ Some i) (none : None ≡ option_map (λ (w : Waiting). w.slot) (oldest (waiting_in (slice_get p.records.endpoints i)))) (rid : RequestId) (fresh : IsFresh (ids_in p.requests) (state_of p) rid) where
  abbrev who : (e : state.Endpoint) × (live_at (state_of p) at ≡ Some e)
  who = there_at (state_of p) at i there

  pub waits-steps : call_steps p at.node (packet_request_at at.port) (Some rid) ≡ request_begun rid (ask.Packet at) None ∷ []
  waits-steps =
      ap (λ (o : Option ℕ). if_some o (λ j. requesting j (oldest_slot p j) rid at ∷ [])) there
      ∙ ap (λ (o : Option Slot). requesting i o rid at ∷ []) (sym none)

  no-front : oldest who.0.queue ≡ None
  no-front = ap (λ (q : List Item). oldest q) (sym (ap queue_in (at-live (state_of p) at ∙ who.1))) ∙ no-oldest p at i there none

  -- nothing is taken from its queue
  same-queue : changed (state_of p) (oldest_gone who.0.address) ≡ state_of p
  same-queue =
      let by = by_address at (state_of p).endpoints who.0 (ends-of plain p.book p.records p.requests p.table p.peers sound).apart who.1 in
      ap (λ (es : List state.Endpoint). record (state_of p) { endpoints = es })
      (sym (changed-there p at i who.0 there by.changes (with_queue (drop 1)))
      ∙ sym (endpoints-oldest p.book p.records.endpoints i)
      ∙ ap (endpoints_in p.book) (oldest-none p.records.endpoints i none))

  pub waits-means : Means p at.node (packet_request_at at.port) (Some rid)
  waits-means =
      let steps = waits-steps in
      let own = named_so at who.0 (found-passes (is_at at) (state_of p).endpoints who.0 who.1) in
      record {
        state =
            ap (λ (cs : List Step). state_of (done_all cs p)) steps
            ∙ ap (λ (ps : List (Peer LaneSeen)). state_in plain p.book p.records (with_last p.requests rid (ask.Packet at) None) p.table ps) (quiet-peers p.peers)
            ∙ asked-state plain p.book p.records p.requests p.table p.peers rid (ask.Packet at) None fresh.serial
            ∙ ap (λ (u : DomainState). changed u (request_added (state.packet_at at) None)) (sym same-queue)
            ∙ ap (λ (l : Local). changed_all (state_of p) (oldest_gone who.0.address ∷ request_added (state.packet_at l) None ∷ [])) (sym own)
            ∙ sym (ap (λ (o : Option Item). changed_all (state_of p) (oldest_gone who.0.address ∷ request_added (state.packet_at who.0.local) (option_map state.has_item o) ∷ [])) no-front)
            ∙ sym (ap (λ (o : Option state.Endpoint). changed_all (state_of p) (at_live o (λ e. oldest_gone e.address ∷ request_added (state.packet_at e.local) (option_map state.has_item (oldest e.queue)) ∷ []))) who.1);
        moves = λ n. ap (λ (cs : List Step). all_moves cs n) steps;
        ids = ap (λ (cs : List Step). ids_in (done_all cs p).requests) steps ∙ last-ids p.requests rid (ask.Packet at) None;
        fresh = fresh;
        lent = None;
        packets = ap (λ (cs : List Step). (done_all cs p).records.lent) steps ∙ sym (append-nil p.records.lent);
        lends = refl;
      }

-- ---- the packet that a request held is lent

module _ (p : Parts) (sound : Sound p) (place : Option ℕ) (s : Slot) (is : IsQueued p.book s) (more : HasMore s (handed_slots (without_at p.requests place).standing) (handed_slots p.requests.standing)) where
  abbrev left : Requests
  left = without_at p.requests place

  abbrev tested_id : PacketId
  tested_id = next_lent p.book s

  abbrev tested : Parts
  tested = done (packet_ended place tested_id) p

  held : (x : book.Item) × (item_at p.book s ≡ Some x) × (is_state x.lent None ≡ true)
  held = queued-same (item_at p.book s) is

  stood : Stands (slots_of p.records p.requests) (lent_slots p.records) p.book
  stood = all-stand plain p.book p.records p.requests p.table p.peers sound

  fewer : HasMore s (slots_of p.records left) (slots_of p.records p.requests)
  fewer = ended-more p.records p.requests left p.book s more

  pub tested-room : length p.records.lent < p.records.room
  tested-room = lent-fits p sound (length (slots_of p.records left)) (length-more s (slots_of p.records left) (slots_of p.records p.requests) fewer)

  tested-is : tested ≡ record { book = with_lent p.book s; records = with_last_lent p.records tested_id; requests = left; table = p.table; peers = p.peers }
  tested-is =
      ap (λ (ps : List (Peer LaneSeen)). record { book = with_lent p.book s; records = with_last_lent p.records tested_id; requests = left; table = p.table; peers = ps }) (quiet-peers p.peers)

  pub packet_ended-keeps : AreReceives left → Sound tested
  packet_ended-keeps receives =
      subst Sound (sym tested-is)
      (lent-sound p.book s held.0 held.1 held.2 (slots_of p.records p.requests) (lent_slots p.records) stood p.records p.records p.requests left refl (λ are. are) fewer (omega arith) plain p.table p.peers (same-endpoints p.records) receives sound)

  module _ (at : Local) (serial : ℕ) (there : request_at_place (state_of p) place ≡ Some (record { serial = serial; asked = state.packet_at at; outcome = Some (state.has_item (numbered_at p.book s)) })) (ends : ending p.book place (how_held p.requests place) ≡ packet_ended place tested_id) where
    tested-state : state_of tested ≡ changed_all (state_of p) (success_changes (state_of p) 0 (test_of place))
    tested-state =
        ap state_of tested-is
        ∙ lent-state p.book s held.0 held.1 held.2 (slots_of p.records p.requests) (lent_slots p.records) stood p.records p.records p.requests left refl (λ are. are) fewer plain p.table p.peers
        ∙ ap (λ (rs : List state.Request). changed (record (state_of p) { requests = rs }) (packet_lent (numbered_at p.book s))) (map-without (request_in p.book) place p.requests.standing)
        ∙ sym (ap (λ (o : Option state.Request). changed_all (changed (state_of p) (request_gone place)) (lent_by_test o)) there)

    pub packet-means : Means p 0 (test_of place) None
    packet-means =
        record {
          state = ap (λ (c : Step). state_of (done c p)) ends ∙ tested-state;
          moves = λ n. ap (λ (c : Step). step_moves c n) ends ∙ ap (λ (is : List Item). moves_at [] is n) (sym (ap held_by there));
          ids = ap (λ (c : Step). ids_in (done c p).requests) ends ∙ left-ids p place;
          fresh = tt;
          lent = Some tested_id;
          packets = ap (λ (c : Step). (done c p).records.lent) ends;
          lends = sym (ap (packet_tested (state_of p)) there);
        }

    pub packet-answer : brings_whole (packet_at_place_in (packets_in tested.book tested.records.lent) (place_of_packet_id tested.records.lent tested_id)) ≡ result_of (request_at_place (state_of p) place)
    packet-answer =
        ap brings_whole (packet-new p.book s held.0 held.1 held.2 (slots_of p.records p.requests) (lent_slots p.records) stood p.records.lent (none-of_it p sound s is))
        ∙ sym (ap result_of there)
