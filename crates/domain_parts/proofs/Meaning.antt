-- What the steps of each call's success mean.
use Rattle.std.proofs.Common.{◌≡◌, ℕ, ◌+◌, Bool, true, false, cond, List, [], ◌∷◌, ◌++◌, map, Option, Some, None, refl, sym, ap, ◌∙◌}
use Rattle.std.specs.Prelude.{option_and_then, option_map, option_to_list, position, slice_get, ◌==◌}
use Rattle.std.specs.List.{flat_map}
use Rattle.std.proofs.lemmas.List.{append-nil}
use Rattle.mc_base.specs.FullName.{end_name}
use Rattle.mc_base.specs.Letter.{msg}
use Rattle.mc_base.specs.declared.name.EndName.{EndName}
use Rattle.mc_base.specs.declared.name.Local.{Local}
use Rattle.mc_base.specs.declared.request.RequestId.{RequestId}
use Rattle.mc_base.specs.declared.request.Slot.{Slot}
use Rattle.board_model.specs.Answer.{address_of, post, puts_of, success_puts}
use Rattle.board_model.specs.Choice.{best}
use Rattle.board_model.specs.DomainCall.{available_at, cancel_of, create_at, lookup_of, raw_to, receive_at, request_at, send_from, test_of}
use Rattle.domain_parts.specs.PlacedCalls.{best_queued, with_request}
use Rattle.board_model.specs.CallChanges.{held_by, lent_by, lent_by_test}
use Rattle.board_model.specs.Labels.{packet_brought, packet_tested}
use Rattle.board_model.specs.Change.{Change, changed, changed_all, request_gone}
use Rattle.board_model.specs.Lists.{without}
use Rattle.board_model.specs.State as state
use Rattle.board_model.specs.State.{Item, Outcome, has_address, has_item, name_of, place_at, queue_in, request_at_place}
use Rattle.endpoint_table.specs.Table.{created}
use Rattle.lane_end.specs.SendMoves.{Sent}
use Rattle.message_queue.specs.Queue.{Waiting}
use Rattle.request_set.specs.declared.ask.Ask.TheVariants as ask
use Rattle.request_set.specs.declared.ask.Complete.{Complete}
use Rattle.request_set.specs.declared.ask.Complete.TheVariants as complete
use Rattle.request_set.specs.Requests.{Requests, Standing, is_id, progress_of, request_of, without_request}
use Rattle.domain_parts.specs.LaneSeen.{LaneSeen}
use Rattle.domain_parts.specs.declared.endpoints.Endpoint.{Endpoint}
use Rattle.domain_parts.specs.declared.peer.Peer.{Peer}
use Rattle.domain_parts.specs.declared.requests.Waiters.TheVariants as waiters
use Rattle.domain_parts.specs.AllMoved.{giving, moves_at}
use Rattle.domain_parts.specs.Calls.{IsFresh}
use Rattle.domain_parts.specs.CallSteps.{Means, best_slot, call_steps, ending, if_some, receiving, how_held}
use Rattle.domain_parts.specs.DomainView.{place_of_id}
use Rattle.domain_parts.specs.GivingBack.{AreOutAt}
use Rattle.domain_parts.specs.InBook.{endpoints_in, frames_at, item_in, numbered_at, outcome_in, request_in}
use Rattle.domain_parts.specs.InRequests.{AreReceives, handed_slots, with_all_complete}
use Rattle.buffer_book.specs.Book.{Book}
use Rattle.domain_parts.specs.LaneMoves.{sender}
use Rattle.domain_parts.specs.Parts.{Parts, Sound, plain, state_of}
use Rattle.domain_parts.specs.Peers.{state_in}
use Rattle.domain_parts.specs.Records.{Records, waiting_in, with_best_taken_at, with_record}
use Rattle.domain_parts.specs.Steps.{Step, all_moves, at_peer, done, done_all, message_ended, request_ended, step_moves, with_last, without_at}
use Rattle.domain_parts.specs.VisitMoves.{putting}
use Rattle.domain_parts.proofs.Asking.{asked-state}
use Rattle.domain_parts.proofs.CallsAgree.{create-agrees, raw-agrees, receive-agrees, request-agrees, returned-agrees}
use Rattle.domain_parts.proofs.StateFits.{ends-of}
use Rattle.board_model.proofs.MessageLists.{get-position}
use Rattle.domain_parts.proofs.Beginning.{last-ids}
use Rattle.domain_parts.proofs.Completing.{ids-all}
use Rattle.domain_parts.proofs.Ending.{ids_in}
use Rattle.domain_parts.proofs.Placed.{HasMore}
use Rattle.domain_parts.proofs.Posting.{posted-means}
use Rattle.domain_parts.proofs.Queuing.{ended-more}
use Rattle.domain_parts.proofs.Receives.{gone-at, map-without, place-of_id}
use Rattle.domain_parts.proofs.Receiving.{begun-state, best-is, best-item, given-state}
use Rattle.domain_parts.proofs.Steps.{best_dropped-is, best_dropped-steps, frame_put-is}
use Rattle.domain_parts.proofs.Stepping.{Any, gives-seen, quiet-peers}
use Rattle.domain_parts.proofs.Tables.{taken-none}
use Rattle.domain_parts.proofs.TiedStates.{made-state}
use Rattle.domain_parts.proofs.Waits.{queue-there}

-- a buffer given back, and a frame put, at a peer whose number is the one or not
pub one-gave : (b : Book) (s : Slot) (n : ℕ) → at_peer s.peer (giving (frames_at b s)) n ≡ moves_at [] (numbered_at b s ∷ []) n
one-gave b s n = go (s.peer == n)
  where
    go : (x : Bool) → cond x (giving (frames_at b s)) [] ≡ giving (flat_map (λ (i : Item). i.frames) (cond x (numbered_at b s ∷ []) []))
    go true = ap giving (sym (append-nil (frames_at b s)))
    go false = refl

pub one-put : (d : ℕ) (f : List ℕ) (b : Bool) → cond b (sender (Sent f) ∷ []) [] ≡ putting (map (λ (x : ℕ × List ℕ). x.1) (cond b ((d, f) ∷ []) [])) ++ []
one-put d f true = refl
one-put d f false = refl

-- ---- a message is sent

pub send-means : (p : Parts) → Sound p → (node port : ℕ) (to : EndName) (priority : ℕ) (bytes : List ℕ) (source destination i : ℕ) → Some i ≡ position (λ (x : Peer LaneSeen). x.number == to.domain) p.peers
    → success_puts (state_of p) node (send_from port to priority bytes) ≡ puts_of (post to.domain source destination (msg priority bytes)) → Means p node (send_from port to priority bytes) None
send-means p sound node port to priority bytes source destination i there puts = posted-means p sound node (send_from port to priority bytes) (post to.domain source destination (msg priority bytes)) i there puts refl refl refl refl refl refl

-- ---- a frame is put as it is

pub raw-means : (p : Parts) → Sound p → (node to : ℕ) (bytes : List ℕ) (i : ℕ) → Some i ≡ position (λ (x : Peer LaneSeen). x.number == to) p.peers → Means p node (raw_to to bytes) None
raw-means p sound node to bytes i there = record {
  state = frame_put-is p to bytes sound i there ∙ raw-agrees (state_of p) node to bytes;
  moves = λ n. one-put to bytes (to == n);
  ids = sym (append-nil (ids_in p.requests));
  fresh = tt;
  lent = None;
  packets = sym (append-nil p.records.lent);
  lends = refl;
}

-- ---- one is received

module _ (p : Parts) (sound : Sound p) (i : ℕ) (w : Waiting) (is : best (λ (x : Waiting). x.priority) (waiting_in (slice_get p.records.endpoints i)) ≡ Some w) (at : Local) (there : place_at (state_of p) at ≡ Some i) (max : ℕ) where
  pub receive-means : Means p at.node (receive_at at.port max) None
  receive-means =
      let steps = sym (best_dropped-steps p sound i w is at there max) in
      record {
        state = ap (λ (cs : List Step). state_of (done_all cs p)) (sym steps) ∙ (best_dropped-is p sound i w is at (sym there) ∙ receive-agrees (state_of p) (ends-of plain p.book p.records p.requests p.table p.peers sound) at max);
        moves = λ n.
            ap (λ (cs : List Step). all_moves cs n) (sym steps) ∙ one-gave p.book w.slot n
            ∙ ap (λ (is : List Item). moves_at [] is n) (ap (λ (y : Item). y ∷ []) (best-item plain p.book p.records p.requests p.table p.peers sound i w is) ∙ ap (λ (o : Option Item). option_to_list o) (sym (best-is plain p.book p.records p.requests p.table p.peers sound i w is at (sym there))) ∙ returned-agrees (state_of p) at.node (receive_at at.port max));
        ids = ap (λ (cs : List Step). ids_in (done_all cs p).requests) (sym steps) ∙ sym (append-nil (ids_in p.requests));
        fresh = tt;
        lent = None;
        packets = ap (λ (cs : List Step). (done_all cs p).records.lent) (sym steps) ∙ sym (append-nil p.records.lent);
        lends = refl;
      }

-- ---- messages are counted

pub available-means : (p : Parts) (node port : ℕ) → Means p node (available_at port) None
available-means p node port = record {
  state = refl;
  moves = λ n. refl;
  ids = sym (append-nil (ids_in p.requests));
  fresh = tt;
  lent = None;
  packets = sym (append-nil p.records.lent);
  lends = refl;
}

-- ---- an endpoint is made

pub create-means : (p : Parts) → Sound p → (at : Local) → Means p at.node (create_at at.port) None
create-means p sound at =
    let who = waiters.Lookups (end_name p.table.domain at) in
    let how = complete.Address (1024 + p.table.given) in
    record {
      state = ap (λ (ps : List (Peer LaneSeen)). state_in plain p.book (with_record p.records at) (with_all_complete p.requests who how) (created p.table at) ps) (quiet-peers p.peers) ∙ made-state plain p.book p.book p.records p.requests p.requests p.table p.peers p.peers sound.peers.rising sound.tied at ∙ create-agrees (state_of p) at;
      moves = λ n. refl;
      ids = ids-all who how p.requests.standing ∙ sym (append-nil (ids_in p.requests));
      fresh = tt;
      lent = None;
      packets = sym (append-nil p.records.lent);
      lends = refl;
    }

-- ---- a request is begun

-- a lookup, which is complete where the address is known
outcome-known : (b : _) (o : Option ℕ) → option_map (outcome_in b) (option_map (λ a. complete.Address a) o) ≡ option_map has_address o
outcome-known b None = refl
outcome-known b (Some a) = refl

pub lookup-means : (p : Parts) (name : EndName) (id : RequestId) → IsFresh (ids_in p.requests) (state_of p) id → Means p 0 (lookup_of name) (Some id)
lookup-means p name id fresh =
    let how = option_map (λ a. complete.Address a) (address_of (state_of p) name) in
    record {
      state = ap (λ (ps : List (Peer LaneSeen)). state_in plain p.book p.records (with_last p.requests id (ask.Lookup name) how) p.table ps) (quiet-peers p.peers)
          ∙ asked-state plain p.book p.records p.requests p.table p.peers id (ask.Lookup name) how fresh.serial
          ∙ ap (λ (o : Option Outcome). with_request (state_of p) (name_of name) o) (outcome-known p.book (address_of (state_of p) name));
      moves = λ n. refl;
      ids = last-ids p.requests id (ask.Lookup name) how;
      fresh = fresh;
      lent = None;
      packets = sym (append-nil p.records.lent);
      lends = refl;
    }

-- a receive, which is complete where a message waits
module _ (p : Parts) (sound : Sound p) (i : ℕ) (id : RequestId) (at : Local) (max : ℕ) (there : place_at (state_of p) at ≡ Some i) (fresh : IsFresh (ids_in p.requests) (state_of p) id) where
  -- its step, by what waits
  pub receive-steps : (o : Option Waiting) → best (λ (x : Waiting). x.priority) (waiting_in (slice_get p.records.endpoints i)) ≡ o → call_steps p at.node (request_at at.port max) (Some id) ≡ receiving i (option_map (λ (x : Waiting). x.slot) o) id at max ∷ []
  receive-steps o is =
      ap (λ (o : Option ℕ). if_some o (λ j. receiving j (best_slot p j) id at max ∷ [])) there
      ∙ ap (λ (o : Option Waiting). receiving i (option_map (λ (x : Waiting). x.slot) o) id at max ∷ []) is

  pub request-means : (w : Waiting) → best (λ (x : Waiting). x.priority) (waiting_in (slice_get p.records.endpoints i)) ≡ Some w → Means p at.node (request_at at.port max) (Some id)
  request-means w is =
      let steps = sym (receive-steps (Some w) is) in
      let how : Option Complete = Some (complete.Message w.slot max) in
      let outcome : option_map (outcome_in p.book) how ≡ option_map has_item (best_queued (state_of p) at)
      = ap (λ (x : Item). Some (has_item x)) (best-item plain p.book p.records p.requests p.table p.peers sound i w is)
      ∙ ap (λ (o : Option Item). option_map has_item o) (sym (best-is plain p.book p.records p.requests p.table p.peers sound i w is at (sym there))) in
      record {
        state = ap (λ (cs : List Step). state_of (done_all cs p)) (sym steps)
            ∙ ap (λ (ps : List (Peer LaneSeen)). state_in plain p.book (with_best_taken_at p.records i) (with_last p.requests id (ask.Message at max) how) p.table ps) (quiet-peers p.peers)
            ∙ begun-state plain p.book p.records p.requests p.table p.peers i id at.node at.port max how (sym there) fresh.serial outcome
            ∙ request-agrees (state_of p) (ends-of plain p.book p.records p.requests p.table p.peers sound) at max i there;
        moves = λ n. ap (λ (cs : List Step). all_moves cs n) (sym steps);
        ids = ap (λ (cs : List Step). ids_in (done_all cs p).requests) (sym steps) ∙ last-ids p.requests id (ask.Message at max) how;
        fresh = fresh;
        lent = None;
        packets = ap (λ (cs : List Step). (done_all cs p).records.lent) (sym steps) ∙ sym (append-nil p.records.lent);
        lends = refl;
      }

  pub pending-means : waiting_in (slice_get p.records.endpoints i) ≡ [] → Means p at.node (request_at at.port max) (Some id)
  pending-means none =
      let steps = sym (receive-steps None (ap (best (λ (x : Waiting). x.priority)) none)) in
      let nothing : best_queued (state_of p) at ≡ None
      = ap (λ (o : Option ℕ). best (λ (x : Item). x.priority) (queue_in (option_and_then (λ j. slice_get (endpoints_in p.book p.records.endpoints) j) o))) there
      ∙ ap (best (λ (x : Item). x.priority)) (queue-there p.book p.records.endpoints i ∙ ap (map (item_in p.book)) none) in
      let same : p.records ≡ with_best_taken_at p.records i = ap (λ (es : List Endpoint). record p.records { endpoints = es }) (sym (taken-none p.records.endpoints i none)) in
      record {
        state = ap (λ (cs : List Step). state_of (done_all cs p)) (sym steps)
            ∙ ap (λ (ps : List (Peer LaneSeen)). state_in plain p.book p.records (with_last p.requests id (ask.Message at max) None) p.table ps) (quiet-peers p.peers)
            ∙ ap (λ (r : Records). state_in plain p.book r (with_last p.requests id (ask.Message at max) None) p.table p.peers) same
            ∙ begun-state plain p.book p.records p.requests p.table p.peers i id at.node at.port max None (sym there) fresh.serial (ap (λ (o : Option Item). option_map has_item o) (sym nothing))
            ∙ request-agrees (state_of p) (ends-of plain p.book p.records p.requests p.table p.peers sound) at max i there;
        moves = λ n. ap (λ (cs : List Step). all_moves cs n) (sym steps);
        ids = ap (λ (cs : List Step). ids_in (done_all cs p).requests) (sym steps) ∙ last-ids p.requests id (ask.Message at max) None;
        fresh = fresh;
        lent = None;
        packets = ap (λ (cs : List Step). (done_all cs p).records.lent) (sym steps) ∙ sym (append-nil p.records.lent);
        lends = refl;
      }

-- ---- a request ends

-- it is gone at its place
pub gone-there : (q : Requests) (id : RequestId) → AreReceives q → without_request q id ≡ without_at q (place_of_id (ids_in q) id)
gone-there q id receives =
    ap (λ (rs : List Standing). record q { standing = rs }) (gone-at id q.standing receives.differ ∙ ap (λ (o : Option ℕ). without o q.standing) (place-of_id id q.standing))

-- how it was complete
pub held-there : (q : Requests) (id : RequestId) (how : Option Complete) → progress_of q id ≡ Some how → how_held q (place_of_id (ids_in q) id) ≡ how
held-there q id how is =
    ap (λ (o : Option ℕ). how_held q o) (sym (place-of_id id q.standing))
    ∙ ap (λ (o : Option Standing). option_and_then (λ (r : Standing). r.complete) o) (get-position (is_id id) q.standing)
    ∙ by (request_of q id) is
  where
    by : (o : Option Standing) → option_map (λ (r : Standing). r.complete) o ≡ Some how → option_and_then (λ (r : Standing). r.complete) o ≡ how
    by None e = absurd cc
    by (Some r) e = cc

-- a test that lends nothing gives no packet
none-brought : (s : state.DomainState) (a : state.Asked) (o : Option Outcome) → lent_by a o ≡ [] → packet_brought s a o ≡ None
none-brought s (state.name_of n) o none = refl
none-brought s (state.channel_of n) o none = refl
none-brought s (state.message_at at max) o none = refl
none-brought s (state.packet_at at) None none = refl
none-brought s (state.packet_at at) (Some (state.has_address a)) none = refl
none-brought s (state.packet_at at) (Some state.is_accepted) none = refl
none-brought s (state.packet_at at) (Some (state.is_rejected r)) none = refl
none-brought s (state.packet_at at) (Some (state.has_item i)) none = absurd cc
none-brought s (state.packet_at at) (Some (state.has_ended w)) none = refl

pub none-tested : (s : state.DomainState) (r : Option state.Request) → lent_by_test r ≡ [] → packet_tested s r ≡ None
none-tested s None none = refl
none-tested s (Some r) none = none-brought s r.asked r.outcome none

module _ (p : Parts) (place : Option ℕ) where
  -- the state without it
  left-state : state_of (done (request_ended place) p) ≡ record (state_of p) { requests = without place (state_of p).requests }
  left-state =
      ap (λ (ps : List (Peer LaneSeen)). state_in plain p.book p.records (without_at p.requests place) p.table ps) (quiet-peers p.peers)
      ∙ ap (λ (rs : List state.Request). record (state_of p) { requests = rs }) (map-without (request_in p.book) place p.requests.standing)

  pub left-ids : ids_in (without_at p.requests place) ≡ without place (ids_in p.requests) ++ []
  left-ids = map-without (λ (r : Standing). r.id) place p.requests.standing ∙ sym (append-nil (without place (ids_in p.requests)))

  pub cancel-means : Means p 0 (cancel_of place) None
  cancel-means = record {
    state = left-state;
    moves = λ n. refl;
    ids = left-ids;
    fresh = tt;
    lent = None;
    packets = sym (append-nil p.records.lent);
    lends = refl;
  }

  -- one that held no message and no packet
  pub quiet-means : ending p.book place (how_held p.requests place) ≡ request_ended place → held_by (request_at_place (state_of p) place) ≡ [] → lent_by_test (request_at_place (state_of p) place) ≡ [] → Means p 0 (test_of place) None
  quiet-means quiet items lends =
      let step : request_ended place ≡ ending p.book place (how_held p.requests place) = sym quiet in
      record {
        state = ap (λ (c : Step). state_of (done c p)) (sym step) ∙ left-state ∙ ap (λ (cs : List Change). changed_all (changed (state_of p) (request_gone place)) cs) (sym lends);
        moves = λ n. ap (λ (c : Step). step_moves c n) (sym step) ∙ ap (λ (is : List Item). moves_at [] is n) (sym items);
        ids = ap (λ (c : Step). ids_in (done c p).requests) (sym step) ∙ left-ids;
        fresh = tt;
        lent = None;
        packets = ap (λ (c : Step). (done c p).records.lent) (sym step) ∙ sym (append-nil p.records.lent);
        lends = sym (none-tested (state_of p) (request_at_place (state_of p) place) lends);
      }

  -- one that held a message
  module _ (sound : Sound p) (s : Slot) (held : ending p.book place (how_held p.requests place) ≡ message_ended place s (frames_at p.book s)) (out : AreOutAt plain s.peer (frames_at p.book s) p.peers) (more : HasMore s (handed_slots (without_at p.requests place).standing) (handed_slots p.requests.standing)) where
    pub tested-means : held_by (request_at_place (state_of p) place) ≡ numbered_at p.book s ∷ [] → lent_by_test (request_at_place (state_of p) place) ≡ [] → Means p 0 (test_of place) None
    tested-means items lends =
        let step : message_ended place s (frames_at p.book s) ≡ ending p.book place (how_held p.requests place) = sym held in
        record {
          state = ap (λ (c : Step). state_of (done c p)) (sym step)
              ∙ given-state Any (λ l. tt) plain p.book p.records p.records p.requests (without_at p.requests place) p.table s p.peers _ (gives-seen s.peer (frames_at p.book s) p.peers sound.peers.rising out) (ended-more p.records p.requests (without_at p.requests place) p.book s more) sound.places refl refl refl refl
              ∙ ap (λ (rs : List state.Request). record (state_of p) { requests = rs }) (map-without (request_in p.book) place p.requests.standing)
              ∙ ap (λ (cs : List Change). changed_all (changed (state_of p) (request_gone place)) cs) (sym lends);
          moves = λ n. ap (λ (c : Step). step_moves c n) (sym step) ∙ one-gave p.book s n ∙ ap (λ (is : List Item). moves_at [] is n) (sym items);
          ids = ap (λ (c : Step). ids_in (done c p).requests) (sym step) ∙ left-ids;
          fresh = tt;
          lent = None;
          packets = ap (λ (c : Step). (done c p).records.lent) (sym step) ∙ sym (append-nil p.records.lent);
          lends = sym (none-tested (state_of p) (request_at_place (state_of p) place) lends);
        }
