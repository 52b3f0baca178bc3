-- The steps of each call, and what they mean for the domain's state.
-- Source: docs/PROFILE.md, "Calls". The id of a new request, which no state tells, stands beside the call.
use Rattle.std.specs.Prelude.{◌≡◌, ℕ, ◌+◌, List, [], ◌∷◌, ◌++◌, length, map, slice_get, Option, None, Some, option_and_then, option_map, option_to_list, IfSome}
use Rattle.std.specs.List.{AllByRecursion}
use Rattle.mc_base.specs.Limits.{first_address}
use Rattle.mc_base.specs.declared.channel.Side.{Side}
use Rattle.mc_base.specs.declared.channel.Side.TheVariants.{Receiver, Sender}
use Rattle.mc_base.specs.declared.name.Local.{Local}
use Rattle.mc_base.specs.declared.refusal.Refusal.{Refusal}
use Rattle.mc_base.specs.declared.refusal.Refusal.TheVariants.{ChanClosed}
use Rattle.mc_base.specs.declared.request.PacketId.{PacketId}
use Rattle.mc_base.specs.declared.request.RequestId.{RequestId}
use Rattle.mc_base.specs.declared.request.Slot.{Slot}
use Rattle.board_model.specs.Answer.{address_of, answer, channel_at, first_complete, local, refusal, success_puts}
use Rattle.board_model.specs.ChannelEnds.{closed_end, opened_end}
use Rattle.board_model.specs.Choice.{best, oldest}
use Rattle.board_model.specs.DomainCall.{DomainCall, create_at, delete_at, lookup_of, send_from, receive_at, request_at, connect_from, open_at, packet_from, lend_at, packet_request_at, release_of, scalar_from, scalar_at, close_at, test_of, wait_for, cancel_of, raw_to}
use Rattle.board_model.specs.Change.{changed_all}
use Rattle.board_model.specs.CallChanges.{new_sender, success_changes, success_returned}
use Rattle.board_model.specs.Journal.{PlainAnswer}
use Rattle.board_model.specs.Labels.{success_packet}
use Rattle.board_model.specs.Lists.{without}
use Rattle.board_model.specs.State as state
use Rattle.board_model.specs.State.{ChannelEnd, DomainState, closed, connected, connecting, opened, place_at}
use Rattle.packet_channel.specs.declared.channel.Channel.{Channel}
use Rattle.packet_channel.specs.declared.channel.Stage.{Stage}
use Rattle.packet_channel.specs.declared.channel.Stage.TheVariants as stage
use Rattle.buffer_book.specs.Book.{Book, slot_of}
use Rattle.request_set.specs.declared.ask.Ask.TheVariants as ask
use Rattle.request_set.specs.declared.ask.Complete.{Complete}
use Rattle.request_set.specs.declared.ask.Complete.TheVariants as complete
use Rattle.request_set.specs.Requests.{Requests}
use Rattle.domain_parts.specs.AllMoved.{AllMoved, moves_at, numbers_of}
use Rattle.domain_parts.specs.Calls.{IsFresh, success_ends, success_releases}
use Rattle.domain_parts.specs.InBook.{frames_at}
use Rattle.domain_parts.specs.LaneMoves.{LaneMove}
use Rattle.domain_parts.specs.Parts.{Holding, Parts, state_of}
use Rattle.domain_parts.specs.Records.{slots_at, waiting_in}
use Rattle.domain_parts.specs.Steps.{Did, Step, all_moves, best_dropped, channel_given, channel_set, done_all, endpoint_gone, endpoint_made, frame_put, message_ended, next_lent, oldest_dropped, oldest_lent, packet_begun, packet_ended, packet_released, receive_begun, receives_ended, request_begun, request_ended}

-- steps that hang on what is there
abbrev pub if_some : {A : Type 0} → Option A → (A → List Step) → List Step
if_some None f = []
if_some (Some x) f = f x

-- the slot of the best message that waits at a place
abbrev pub best_slot : Parts → ℕ → Option Slot
best_slot p i = option_map (λ w. w.slot) (best (λ w. w.priority) (waiting_in (slice_get p.records.endpoints i)))

-- that of the oldest
abbrev pub oldest_slot : Parts → ℕ → Option Slot
oldest_slot p i = option_map (λ w. w.slot) (oldest (waiting_in (slice_get p.records.endpoints i)))

abbrev pub putting_all : List (ℕ × List ℕ) → List Step
putting_all puts = map (λ f. frame_put f.0 f.1) puts

-- all that waits at a place is dropped, the oldest first
abbrev pub dropped_at : Book → ℕ → Slot → Step
dropped_at b i s = oldest_dropped i s (frames_at b s)

abbrev pub drops : Book → ℕ → List Slot → List Step
drops b i slots = map (dropped_at b i) slots

-- a receive is begun at a place: with the best message, where one waits
abbrev pub receiving : ℕ → Option Slot → RequestId → Local → ℕ → Step
receiving i None id at max = request_begun id (ask.Message at max) None
receiving i (Some s) id at max = receive_begun i s id at max

-- a receive of a packet is begun at a place: with the oldest, where one is queued
abbrev pub requesting : ℕ → Option Slot → RequestId → Local → Step
requesting i None id at = request_begun id (ask.Packet at) None
requesting i (Some s) id at = packet_begun i s id at

-- how the request at a place is complete
abbrev pub how_held : Requests → Option ℕ → Option Complete
how_held q place = option_and_then (λ r. r.complete) (option_and_then (λ i. slice_get q.standing i) place)

-- a request ends, with the message that it holds; the packet that it holds is lent
abbrev pub ending : Book → Option ℕ → Option Complete → Step
ending b place (Some (complete.Message slot max)) = message_ended place slot (frames_at b slot)
ending b place (Some (complete.Packet slot)) = packet_ended place (next_lent b slot)
ending b place other = request_ended place

-- an end of a channel, as a domain has it
abbrev pub stage_from : state.Stage → Stage
stage_from connecting = stage.Connecting
stage_from connected = stage.Connected
stage_from opened = stage.Open
stage_from closed = stage.Closed

abbrev pub as_channel : ChannelEnd → Channel
as_channel e = record { side = e.side; kind = e.kind; owner = e.owner; number = e.number; peer = e.peer; peer_addr = e.peer_address; stage = stage_from e.stage; far_open = e.far_open; far_closed = e.far_closed }

-- a receiver's end that closes: the receives that wait there end, and all that is queued there is dropped
abbrev pub emptying : Book → Side → ℕ → Local → List Slot → List Step
emptying b Sender i at slots = []
emptying b Receiver i at slots = receives_ended at ChanClosed ∷ drops b i slots

-- what was done for it
abbrev pub Empties : {L : Type 0} → (L → List LaneMove → L → Type 0) → Side → ℕ → Local → Holding L → Holding L → Type 0
Empties Moved Sender i at old new = new ≡ old
Empties Moved Receiver i at old new = Did Moved (emptying old.parts.book Receiver i at (slots_at old.parts.records i)) old new

-- what is done at a place with the end of a channel that the endpoint of a name has
abbrev pub at_its_end : DomainState → Local → (ℕ → ChannelEnd → List Step) → List Step
at_its_end s at f = if_some (place_at s at) (λ i. if_some (channel_at s at) (f i))

-- the steps of a call's success
abbrev pub call_steps : Parts → ℕ → DomainCall → Option RequestId → List Step
call_steps p node (create_at port) given = endpoint_made p.table.domain (local node port) (first_address + p.table.given) ∷ []
call_steps p node (delete_at port) given = if_some (place_at (state_of p) (local node port)) (λ i. drops p.book i (slots_at p.records i) ++ endpoint_gone i (local node port) ∷ [])
call_steps p node (lookup_of name) given = if_some given (λ id. request_begun id (ask.Lookup name) (option_map (λ a. complete.Address a) (address_of (state_of p) name)) ∷ [])
call_steps p node (send_from port to priority bytes) given = putting_all (success_puts (state_of p) node (send_from port to priority bytes))
call_steps p node (receive_at port max) given = if_some (place_at (state_of p) (local node port)) (λ i. if_some (best_slot p i) (λ s. best_dropped i s (frames_at p.book s) ∷ []))
call_steps p node (request_at port max) given = if_some given (λ id. if_some (place_at (state_of p) (local node port)) (λ i. receiving i (best_slot p i) id (local node port) max ∷ []))
call_steps p node (connect_from port to kind) given = if_some given (λ id. if_some (place_at (state_of p) (local node port)) (λ i.
    putting_all (success_puts (state_of p) node (connect_from port to kind))
    ++ channel_set i (Some (as_channel (new_sender (state_of p) to kind)))
    ∷ request_begun id (ask.Connect ((state_of p).channels_given + 1)) None
    ∷ channel_given
    ∷ []))
call_steps p node (open_at port side kind) given = at_its_end (state_of p) (local node port) (λ i c.
    putting_all (success_puts (state_of p) node (open_at port side kind))
    ++ channel_set i (Some (as_channel (opened_end c)))
    ∷ [])
call_steps p node (packet_from port bytes) given = putting_all (success_puts (state_of p) node (packet_from port bytes))
call_steps p node (lend_at port) given = if_some (place_at (state_of p) (local node port)) (λ i. if_some (oldest_slot p i) (λ s. oldest_lent i (next_lent p.book s) ∷ []))
call_steps p node (packet_request_at port) given = if_some given (λ id. if_some (place_at (state_of p) (local node port)) (λ i. requesting i (oldest_slot p i) id (local node port) ∷ []))
call_steps p node (release_of place) given = if_some place (λ i. if_some (slice_get p.records.lent i) (λ id. packet_released i id (frames_at p.book (slot_of id)) ∷ []))
call_steps p node (scalar_from port bits value) given = putting_all (success_puts (state_of p) node (scalar_from port bits value))
call_steps p node (scalar_at port bits) given = if_some (place_at (state_of p) (local node port)) (λ i. if_some (oldest_slot p i) (λ s. oldest_dropped i s (frames_at p.book s) ∷ []))
call_steps p node (close_at port side) given = at_its_end (state_of p) (local node port) (λ i c.
    putting_all (success_puts (state_of p) node (close_at port side))
    ++ (emptying p.book side i (local node port) (slots_at p.records i)
    ++ channel_set i (option_map as_channel (closed_end c))
    ∷ []))
call_steps p node (test_of place) given = ending p.book place (how_held p.requests place) ∷ []
call_steps p node (wait_for places says_place) given = ending p.book (first_complete (state_of p) places) (how_held p.requests (first_complete (state_of p) places)) ∷ []
call_steps p node (cancel_of place) given = request_ended place ∷ []
call_steps p node (raw_to to bytes) given = putting_all (success_puts (state_of p) node (raw_to to bytes))
call_steps p node other given = []

-- What the steps of a call's success mean: the state after them is the one to which its changes lead, and the buffers that they give back
-- are the frames of the items that it returns
pub record Means (p : Parts) (node : ℕ) (call : DomainCall) (given : Option RequestId) : Type 0 where
  pub state : state_of (done_all (call_steps p node call given) p) ≡ changed_all (state_of p) (success_changes (state_of p) node call)
  pub moves : (n : ℕ) → all_moves (call_steps p node call given) n ≡ moves_at (success_puts (state_of p) node call) (success_returned (state_of p) node call) n
  pub ids : map (λ r. r.id) (done_all (call_steps p node call given) p).requests.standing ≡ without (success_ends (state_of p) call) (map (λ r. r.id) p.requests.standing) ++ option_to_list given
  pub fresh : IfSome given (IsFresh (map (λ r. r.id) p.requests.standing) (state_of p))
  pub lent : Option PacketId
  pub packets : (done_all (call_steps p node call given) p).records.lent ≡ without (success_releases call) p.records.lent ++ option_to_list lent
  pub lends : option_map (λ i. i.serial) lent ≡ success_packet (state_of p) call

-- a call's success: its steps were made
pub record Succeeds {L : Type 0} (Moved : L → List LaneMove → L → Type 0) (node : ℕ) (call : DomainCall) (old new : Holding L) (given : Option RequestId) : Type 0 where
  pub did : Did Moved (call_steps old.parts node call given) old new
  pub means : Means old.parts node call given

-- a call after its turn: a refused one changes nothing
abbrev pub Acted : {L : Type 0} → (L → List LaneMove → L → Type 0) → Option Refusal → ℕ → DomainCall → Holding L → Holding L → Option RequestId → Type 0
Acted Moved (Some word) node call old new given = (new ≡ old) × (given ≡ None)
Acted Moved None node call old new given = Succeeds Moved node call old new given

pub record Acts {L : Type 0} (Moved : L → List LaneMove → L → Type 0) (node : ℕ) (call : DomainCall) (old new : Holding L) (answered : PlainAnswer) (given : Option RequestId) : Type 0 where
  pub answer : answered ≡ answer (state_of old.parts) node call
  pub did : Acted Moved (refusal (state_of old.parts) node call) node call old new given

-- no move leads from the ends towards each peer to themselves
abbrev pub Rests : {L : Type 0} → (L → List LaneMove → L → Type 0) → Holding L → Type 0
Rests Moved h = AllMoved Moved h.ends (map (λ n. []) (numbers_of h.parts.peers)) h.ends

-- so many of the messages at a place were dropped, the oldest first, and those that wait still have their frames
pub record Dropping {L : Type 0} (Moved : L → List LaneMove → L → Type 0) (i k : ℕ) (start now : Holding L) : Type 0 where
  pub gone : List Slot
  pub count : k ≡ length gone
  pub all : slots_at start.parts.records i ≡ gone ++ slots_at now.parts.records i
  pub did : Did Moved (drops start.parts.book i gone) start now
  pub same : AllByRecursion (λ s. frames_at now.parts.book s ≡ frames_at start.parts.book s) (slots_at now.parts.records i)
