-- What a call changes. A refused call changes nothing.
-- Source: docs/PROFILE.md, "Calls". E is the endpoint of the line's domain, node and port.
use Rattle.std.specs.Prelude.{ℕ, ◌+◌, true, false, List, [], ◌∷◌, Option, None, Some, option_map, option_to_list, unwrap_or}
use Rattle.mc_base.specs.Limits.{first_address}
use Rattle.mc_base.specs.FullName.{end_name}
use Rattle.mc_base.specs.Letter.{msg, packet}
use Rattle.mc_base.specs.Pieces.{frames_needed}
use Rattle.mc_base.specs.declared.name.EndName.{EndName}
use Rattle.mc_base.specs.declared.channel.Kind.{Kind}
use Rattle.mc_base.specs.declared.channel.Side.{Side}
use Rattle.mc_base.specs.declared.channel.Side.TheVariants.{Sender, Receiver}
use Rattle.mc_base.specs.declared.refusal.Refusal.TheVariants.{EndpInvalid, ChanClosed}
use Rattle.board_model.specs.Choice.{best, oldest}
use Rattle.board_model.specs.DomainCall.{DomainCall, create_at, delete_at, lookup_of, send_from, receive_at, request_at, available_at, connect_from, open_at, packet_from, lend_at, packet_request_at, release_of, scalar_from, scalar_at, close_at, test_of, wait_for, cancel_of, raw_to, turn_alone}
use Rattle.board_model.specs.State.{Item, ChannelEnd, Endpoint, Asked, Outcome, Request, LentPacket, name_of, channel_of, message_at, packet_at, has_address, has_item, item_in, DomainState, live_at, request_at_place, packet_at_place}
use Rattle.board_model.specs.Change.{Change, endpoint_made, endpoint_gone, best_gone, oldest_gone, channel_set, queue_dropped, request_added, waiting_ended, name_found, request_gone, end_announced, buffers_used, packet_lent, packet_gone, channel_given, changed_all}
use Rattle.board_model.specs.ChannelEnds.{connecting_end, opened_end, closed_end}
use Rattle.board_model.specs.Answer.{local, address_of, first_complete, refusal, unless_refused}

-- the changes of a call at a live endpoint
abbrev pub at_live : {A : Type 0} → Option Endpoint → (Endpoint → List A) → List A
at_live None f = []
at_live (Some e) f = f e

-- the oldest item of the best priority
abbrev pub best_item : Endpoint → Option Item
best_item e = best (λ i. i.priority) e.queue

-- the changes of a call at a live endpoint with a channel
abbrev pub at_channel : {A : Type 0} → Option ChannelEnd → (ChannelEnd → List A) → List A
at_channel None f = []
at_channel (Some c) f = f c

abbrev pub at_end : {A : Type 0} → Option Endpoint → (Endpoint → ChannelEnd → List A) → List A
at_end None f = []
at_end (Some e) f = at_channel e.channel (f e)

-- the end that is connecting to a name
abbrev pub new_sender : DomainState → EndName → Kind → ChannelEnd
new_sender s to kind = connecting_end kind s.number (s.channels_given + 1) to.domain (unwrap_or (address_of s to) 0)

-- an end closes. At the receiver's end, pending receives are completed with a word, and all queued items are dropped
abbrev pub closing : Side → Endpoint → ChannelEnd → List Change
closing Sender e c = buffers_used c.peer 1 ∷ channel_set e.address (closed_end c) ∷ []
closing Receiver e c = buffers_used c.peer 1 ∷ waiting_ended e.address ChanClosed ∷ queue_dropped e.address (closed_end c) ∷ []

-- a packet that a receive takes is lent, and so is one whose request is tested
abbrev pub lending : Option Item → List Change
lending None = []
lending (Some i) = packet_lent i ∷ []

abbrev pub lent_by : Asked → Option Outcome → List Change
lent_by (packet_at at) (Some (has_item i)) = packet_lent i ∷ []
lent_by asked outcome = []

abbrev pub lent_by_test : Option Request → List Change
lent_by_test None = []
lent_by_test (Some r) = lent_by r.asked r.outcome

-- a request that a test reports ends
abbrev pub tested : DomainState → Option ℕ → List Change
tested s request = request_gone request ∷ lent_by_test (request_at_place s request)

-- what a successful call changes
abbrev pub success_changes : DomainState → ℕ → DomainCall → List Change
success_changes s node (create_at port) =
    endpoint_made (local node port)
    ∷ end_announced (record { local = local node port; address = first_address + s.endpoints_given; create = true })
    ∷ name_found (end_name s.number (local node port)) (first_address + s.endpoints_given)
    ∷ []
success_changes s node (delete_at port) = at_live (live_at s (local node port)) (λ e.
    waiting_ended e.address EndpInvalid
    ∷ endpoint_gone e.address
    ∷ end_announced (record { local = e.local; address = e.address; create = false })
    ∷ [])
success_changes s node (lookup_of name) = request_added (name_of name) (option_map has_address (address_of s name)) ∷ []
success_changes s node (send_from port to priority bytes) = buffers_used to.domain (frames_needed (msg priority bytes)) ∷ []
success_changes s node (receive_at port max) = at_live (live_at s (local node port)) (λ e. best_gone e.address ∷ [])
success_changes s node (request_at port max) = at_live (live_at s (local node port)) (λ e.
    best_gone e.address
    ∷ request_added (message_at e.local max) (option_map has_item (best_item e))
    ∷ [])
success_changes s node (available_at port) = []
success_changes s node (connect_from port to kind) = at_live (live_at s (local node port)) (λ e.
    buffers_used to.domain 1
    ∷ channel_set e.address (Some (new_sender s to kind))
    ∷ request_added (channel_of (s.channels_given + 1)) None
    ∷ channel_given
    ∷ [])
success_changes s node (open_at port side kind) = at_end (live_at s (local node port)) (λ e c. buffers_used c.peer 1 ∷ channel_set e.address (Some (opened_end c)) ∷ [])
success_changes s node (packet_from port bytes) = at_end (live_at s (local node port)) (λ e c. buffers_used c.peer (frames_needed (packet c.number bytes)) ∷ [])
success_changes s node (lend_at port) = at_live (live_at s (local node port)) (λ e. oldest_gone e.address ∷ lending (oldest e.queue))
success_changes s node (packet_request_at port) = at_live (live_at s (local node port)) (λ e.
    oldest_gone e.address
    ∷ request_added (packet_at e.local) (option_map has_item (oldest e.queue))
    ∷ [])
success_changes s node (release_of place) = packet_gone place ∷ []
success_changes s node (scalar_from port bits value) = at_end (live_at s (local node port)) (λ e c. buffers_used c.peer 1 ∷ [])
success_changes s node (scalar_at port bits) = at_live (live_at s (local node port)) (λ e. oldest_gone e.address ∷ [])
success_changes s node (close_at port side) = at_end (live_at s (local node port)) (closing side)
success_changes s node (test_of request) = tested s request
success_changes s node (wait_for requests says_place) = tested s (first_complete s requests)
success_changes s node (cancel_of request) = request_gone request ∷ []
success_changes s node (raw_to to bytes) = buffers_used to 1 ∷ []
success_changes s node turn_alone = []

abbrev pub call_changes : DomainState → ℕ → DomainCall → List Change
call_changes s node call = unless_refused (refusal s node call) [] (success_changes s node call)

-- the state after a call
abbrev pub effect : DomainState → ℕ → DomainCall → DomainState
effect s node call = changed_all s (call_changes s node call)

-- the item of a lent packet, and the message that a request holds. A packet that a request holds is lent when it is tested
abbrev pub item_lent : Option LentPacket → List Item
item_lent None = []
item_lent (Some p) = p.item ∷ []

abbrev pub message_held : Asked → Option Outcome → List Item
message_held (packet_at at) outcome = []
message_held asked outcome = item_in outcome

abbrev pub held_by : Option Request → List Item
held_by None = []
held_by (Some r) = message_held r.asked r.outcome

-- the items whose buffers a successful call gives back, in that order
abbrev pub success_returned : DomainState → ℕ → DomainCall → List Item
success_returned s node (delete_at port) = at_live (live_at s (local node port)) (λ e. e.queue)
success_returned s node (receive_at port max) = at_live (live_at s (local node port)) (λ e. option_to_list (best_item e))
success_returned s node (release_of place) = item_lent (packet_at_place s place)
success_returned s node (scalar_at port bits) = at_live (live_at s (local node port)) (λ e. option_to_list (oldest e.queue))
success_returned s node (close_at port Receiver) = at_live (live_at s (local node port)) (λ e. e.queue)
success_returned s node (test_of request) = held_by (request_at_place s request)
success_returned s node (wait_for requests says_place) = held_by (request_at_place s (first_complete s requests))
success_returned s node other = []

abbrev pub returned : DomainState → ℕ → DomainCall → List Item
returned s node call = unless_refused (refusal s node call) [] (success_returned s node call)
