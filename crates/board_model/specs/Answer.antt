-- The answer of a call: the first refusal whose condition holds, or else the answer of success.
-- Source: docs/PROFILE.md, "Calls" and "Words of refusal". E is the endpoint of the line's domain, node and port.
use Rattle.std.specs.Prelude.{ℕ, ◌+◌, Bool, true, false, not, ◌||◌, List, [], ◌∷◌, map, length, take, nat_lt, nat_le, ◌==◌, find, position, option_map, option_and_then, Option, None, Some, is_none, is_some, unwrap_or, if◌then◌else◌}
use Rattle.std.specs.List.{list_all, list_any, flat_map}
use Rattle.byteorder.specs.Endian.{little_number}
use Rattle.mc_base.specs.Limits.{item_size, first_address, record_limit, creation_limit, request_limit, channel_limit}
use Rattle.mc_base.specs.NameMap.{address_in}
use Rattle.mc_base.specs.Fault.{fault}
use Rattle.mc_base.specs.Frame.{made}
use Rattle.mc_base.specs.Pieces.{spellings}
use Rattle.mc_base.specs.Letter.{PlainLetter, bytes_of_bits, msg, connect, packet, scalar, send_open, recv_open, send_close, recv_close}
use Rattle.mc_base.specs.declared.name.Local.{Local}
use Rattle.mc_base.specs.declared.name.EndName.{EndName}
use Rattle.mc_base.specs.declared.channel.Kind.TheVariants.{Packet, Scalar}
use Rattle.mc_base.specs.declared.channel.Bits.{Bits}
use Rattle.mc_base.specs.declared.channel.Side.{Side}
use Rattle.mc_base.specs.declared.channel.Side.TheVariants.{Sender, Receiver}
use Rattle.mc_base.specs.declared.refusal.Refusal.{Refusal}
use Rattle.mc_base.specs.declared.refusal.Refusal.TheVariants.{NodeInvalid, ExistsAlready, EndpLimit, AddressSpent, EndpInvalid, PeerInvalid, OnChannel, ChanConnected, EndpBusy, ChanLimit, NotConnected, ChanDirection, ChanType, ChanClosed, AlreadyOpen, NotOpen, MsgSize, PktSize, SclSize, BufInvalid, NoBuffer, Empty, RequestLimit, RequestInvalid, Pending, TooLate, Timeout, LinkInvalid, RawSound}
use Rattle.board_model.specs.DomainCall.{DomainCall, create_at, delete_at, lookup_of, send_from, receive_at, request_at, available_at, connect_from, open_at, packet_from, lend_at, packet_request_at, release_of, scalar_from, scalar_at, close_at, test_of, wait_for, cancel_of, raw_to, turn_alone}
use Rattle.board_model.specs.Journal.{PlainResult, found_at, was_accepted, was_rejected, brought, ended_by, PlainAnswer, refuses, agrees, tells, connects, gives, completes}
use Rattle.board_model.specs.State.{DomainState, Item, ChannelEnd, Endpoint, Peer, Asked, message_at, Outcome, has_address, is_accepted, is_rejected, has_item, has_ended, Request, LentPacket, request_at_place, packet_at_place, place_at, endpoint_at, live_at, address_at, channel_in, queue_at, one_waits, place_of_peer, peer_of, free_to, size_to}
use Rattle.board_model.specs.Choice.{best, oldest}
use Rattle.board_model.specs.ChannelEnds.{EndCall, opens, sends, receives, closes, end_refuses}

-- E
abbrev pub local : ℕ → ℕ → Local
local node port = record { node = node; port = port }

-- the port of E. Calls on requests and names, a raw frame and a turn are made at none
abbrev pub port_of : DomainCall → ℕ
port_of (create_at port) = port
port_of (delete_at port) = port
port_of (lookup_of name) = 0
port_of (send_from port to priority bytes) = port
port_of (receive_at port max) = port
port_of (request_at port max) = port
port_of (available_at port) = port
port_of (connect_from port to kind) = port
port_of (open_at port side kind) = port
port_of (packet_from port bytes) = port
port_of (lend_at port) = port
port_of (packet_request_at port) = port
port_of (release_of place) = 0
port_of (scalar_from port bits value) = port
port_of (scalar_at port bits) = port
port_of (close_at port side) = port
port_of (test_of request) = 0
port_of (wait_for requests says_place) = 0
port_of (cancel_of request) = 0
port_of (raw_to to bytes) = 0
port_of turn_alone = 0

abbrev pub here : ℕ → DomainCall → Local
here node call = local node (port_of call)

-- the address that is known for a name of another domain
abbrev pub known_address : EndName → Option Peer → Option ℕ
known_address n None = None
known_address n (Some p) = address_in n p.known

-- the address of the named endpoint: in this domain that of the live one, in another the one that the other domain announced
abbrev pub address_of : DomainState → EndName → Option ℕ
address_of s n = if n.domain == s.number then address_at s (local n.node n.port) else known_address n (peer_of s n.domain)

-- whether E has a channel
abbrev pub has_channel : Option Endpoint → Bool
has_channel None = false
has_channel (Some e) = is_some e.channel

abbrev pub named : DomainState → DomainCall → Option ℕ
named s (send_from port to priority bytes) = address_of s to
named s (connect_from port to kind) = address_of s to
named s other = None

-- ---- E's channel

-- what a call asks of E's channel, with this many items in E's queue; none where the call is at no channel
abbrev pub end_call : ℕ → DomainCall → Option EndCall
end_call queued (open_at port side kind) = Some (opens side kind)
end_call queued (packet_from port bytes) = Some (sends Packet)
end_call queued (lend_at port) = Some (receives Packet queued)
end_call queued (packet_request_at port) = Some (receives Packet queued)
end_call queued (scalar_from port bits value) = Some (sends Scalar)
end_call queued (scalar_at port bits) = Some (receives Scalar queued)
end_call queued (close_at port side) = Some (closes side)
end_call queued other = None

-- where E has no channel, a call at a channel is refused as not connected and by no other word
abbrev pub lacks_end : Refusal → Bool
lacks_end NotConnected = true
lacks_end other = false

abbrev pub end_holds : EndCall → Option ChannelEnd → Refusal → Bool
end_holds call None word = lacks_end word
end_holds call (Some c) word = end_refuses call c word

abbrev pub holds_at_end : Option EndCall → Option ChannelEnd → Refusal → Bool
holds_at_end None c word = false
holds_at_end (Some call) c word = end_holds call c word

-- the channel of E, where E is live
abbrev pub channel_at : DomainState → Local → Option ChannelEnd
channel_at s at = channel_in (live_at s at)

-- a letter that a call puts: to which peer, and from and to which address
pub record Post : Type 0 where
  pub peer : ℕ
  pub source : ℕ
  pub destination : ℕ
  pub letter : PlainLetter

abbrev pub post : ℕ → ℕ → ℕ → PlainLetter → Post
post peer source destination letter = record { peer = peer; source = source; destination = destination; letter = letter }

-- its frames, each with its peer: one, or those of its parts
abbrev pub put_as : Post → List ℕ → ℕ × List ℕ
put_as p payload = (p.peer, made p.source p.destination payload)

abbrev pub puts_of : Post → List (ℕ × List ℕ)
puts_of p = map (put_as p) (spellings p.letter)

-- from E over its channel, to the address of the far end
abbrev pub over_channel : Option Endpoint → Option ChannelEnd → (ℕ → PlainLetter) → List Post
over_channel (Some e) (Some c) letter = post c.peer e.address c.peer_address (letter c.number) ∷ []
over_channel e c letter = []

abbrev pub over_end : DomainState → Local → (ℕ → PlainLetter) → List Post
over_end s at letter = over_channel (live_at s at) (channel_at s at) letter

abbrev pub opening_letter : Side → ℕ → PlainLetter
opening_letter Sender number = send_open number
opening_letter Receiver number = recv_open number

abbrev pub closing_letter : Side → ℕ → PlainLetter
closing_letter Sender number = send_close number
closing_letter Receiver number = recv_close number

-- the request that a call names, where it exists, and whether it is complete
abbrev pub request_named : DomainState → DomainCall → Option Request
request_named s (test_of request) = request_at_place s request
request_named s (cancel_of request) = request_at_place s request
request_named s other = None

abbrev pub is_complete : Option Request → Bool
is_complete None = false
is_complete (Some r) = is_some r.outcome

-- ---- the requests that a wait names

abbrev pub stands_at : DomainState → Option ℕ → Bool
stands_at s request = is_some (request_at_place s request)

abbrev pub is_complete_at : DomainState → Option ℕ → Bool
is_complete_at s request = is_complete (request_at_place s request)

-- the first of them that is complete, by its place among the domain's requests
abbrev pub first_complete : DomainState → List (Option ℕ) → Option ℕ
first_complete s requests = option_and_then (λ r. r) (find (is_complete_at s) requests)

-- the same by its place among those that the wait names, counted from 1, where the answer says it
abbrev pub place_said : DomainState → List (Option ℕ) → Bool → Option ℕ
place_said s requests says_place = if says_place then option_map (λ i. i + 1) (position (is_complete_at s) requests) else None

-- a request that a call names does not exist
abbrev pub lacks_request : DomainState → DomainCall → Bool
lacks_request s (wait_for requests says_place) = not (list_all (stands_at s) requests)
lacks_request s call = not (is_some (request_named s call))

-- none of the requests that a wait names is complete
abbrev pub lacks_complete : DomainState → DomainCall → Bool
lacks_complete s (wait_for requests says_place) = not (list_any (is_complete_at s) requests)
lacks_complete s call = false

-- ---- a raw frame

-- its peer is neither linked nor the domain itself
abbrev pub lacks_lane : DomainState → DomainCall → Bool
lacks_lane s (raw_to to bytes) = not (is_some (place_of_peer s to))
lacks_lane s call = false

-- it has no fault
abbrev pub is_sound_raw : DomainCall → Bool
is_sound_raw (raw_to to bytes) = is_none (fault bytes)
is_sound_raw call = false

-- the lent packet that a call names, where there is one
abbrev pub packet_named : DomainState → DomainCall → Option LentPacket
packet_named s (release_of place) = packet_at_place s place
packet_named s other = None

-- the front item has another size than the scalar that is asked for
abbrev pub is_of_other_size : DomainCall → List Item → Bool
is_of_other_size (scalar_at port bits) (i ∷ is) = not (length i.content == bytes_of_bits bits)
is_of_other_size call queue = false

abbrev pub content_size : DomainCall → ℕ
content_size (send_from port to priority bytes) = length bytes
content_size (packet_from port bytes) = length bytes
content_size other = 0

-- the letters that success puts
abbrev pub success_posts : DomainState → ℕ → DomainCall → List Post
success_posts s node (send_from port to priority bytes) = post to.domain (unwrap_or (address_at s (local node port)) 0) (unwrap_or (address_of s to) 0) (msg priority bytes) ∷ []
success_posts s node (connect_from port to kind) = post to.domain (unwrap_or (address_at s (local node port)) 0) (unwrap_or (address_of s to) 0) (connect (s.channels_given + 1) kind) ∷ []
success_posts s node (open_at port side kind) = over_end s (local node port) (opening_letter side)
success_posts s node (packet_from port bytes) = over_end s (local node port) (λ number. packet number bytes)
success_posts s node (scalar_from port bits value) = over_end s (local node port) (λ number. scalar number bits value)
success_posts s node (close_at port side) = over_end s (local node port) (closing_letter side)
success_posts s node other = []

-- the frames that success puts, each with its peer: those of its letters, and a raw frame as it is
abbrev pub success_puts : DomainState → ℕ → DomainCall → List (ℕ × List ℕ)
success_puts s node (raw_to to bytes) = (to, bytes) ∷ []
success_puts s node other = flat_map puts_of (success_posts s node other)

-- whether the lane to a peer has fewer buffers than these frames need. One frame never passes a lane: each has a buffer
abbrev pub passes_lane : DomainState → List (ℕ × List ℕ) → Bool
passes_lane s [] = false
passes_lane s (p ∷ ps) = nat_lt (size_to s p.0) (length (p ∷ ps))

-- whether it has fewer buffers free than they need
abbrev pub lacks_buffers : DomainState → List (ℕ × List ℕ) → Bool
lacks_buffers s [] = false
lacks_buffers s (p ∷ ps) = nat_lt (free_to s p.0) (length (p ∷ ps))

-- the conditions of the words
abbrev pub holds : DomainState → ℕ → DomainCall → Refusal → Bool
holds s node call NodeInvalid = nat_le s.nodes node
holds s node call ExistsAlready = is_some (place_at s (here node call))
holds s node call EndpLimit = nat_le record_limit (length s.endpoints + length s.ended)
holds s node call AddressSpent = nat_le creation_limit s.endpoints_given
holds s node call EndpInvalid = not (is_some (place_at s (here node call)))
holds s node call PeerInvalid = not (is_some (named s call))
holds s node call OnChannel = has_channel (endpoint_at s (here node call))
holds s node call ChanConnected = has_channel (endpoint_at s (here node call))
holds s node call EndpBusy = not (length (queue_at s (here node call)) == 0) || one_waits s (here node call)
holds s node call ChanLimit = nat_le channel_limit s.channels_given
holds s node call NotConnected = holds_at_end (end_call (length (queue_at s (here node call))) call) (channel_at s (here node call)) NotConnected
holds s node call ChanDirection = holds_at_end (end_call (length (queue_at s (here node call))) call) (channel_at s (here node call)) ChanDirection
holds s node call ChanType = holds_at_end (end_call (length (queue_at s (here node call))) call) (channel_at s (here node call)) ChanType
holds s node call ChanClosed = holds_at_end (end_call (length (queue_at s (here node call))) call) (channel_at s (here node call)) ChanClosed
holds s node call AlreadyOpen = holds_at_end (end_call (length (queue_at s (here node call))) call) (channel_at s (here node call)) AlreadyOpen
holds s node call NotOpen = holds_at_end (end_call (length (queue_at s (here node call))) call) (channel_at s (here node call)) NotOpen
holds s node call MsgSize = nat_lt item_size (content_size call) || passes_lane s (success_puts s node call)
holds s node call PktSize = nat_lt item_size (content_size call) || passes_lane s (success_puts s node call)
holds s node call SclSize = is_of_other_size call (queue_at s (here node call))
holds s node call BufInvalid = not (is_some (packet_named s call))
holds s node call NoBuffer = lacks_buffers s (success_puts s node call)
holds s node call Empty = length (queue_at s (here node call)) == 0
holds s node call RequestLimit = nat_le request_limit (length s.requests)
holds s node call RequestInvalid = lacks_request s call
holds s node call Pending = not (is_complete (request_named s call))
holds s node call TooLate = is_complete (request_named s call)
holds s node call Timeout = lacks_complete s call
holds s node call LinkInvalid = lacks_lane s call
holds s node call RawSound = is_sound_raw call

-- the words of a call, in their order
abbrev pub words_of : DomainCall → List Refusal
words_of (create_at port) = NodeInvalid ∷ ExistsAlready ∷ EndpLimit ∷ AddressSpent ∷ []
words_of (delete_at port) = EndpInvalid ∷ ChanConnected ∷ []
words_of (lookup_of name) = RequestLimit ∷ []
words_of (send_from port to priority bytes) = EndpInvalid ∷ OnChannel ∷ PeerInvalid ∷ MsgSize ∷ NoBuffer ∷ []
words_of (receive_at port max) = EndpInvalid ∷ OnChannel ∷ Empty ∷ []
words_of (request_at port max) = EndpInvalid ∷ OnChannel ∷ RequestLimit ∷ []
words_of (available_at port) = EndpInvalid ∷ OnChannel ∷ []
words_of (connect_from port to kind) = EndpInvalid ∷ ChanConnected ∷ EndpBusy ∷ PeerInvalid ∷ ChanLimit ∷ RequestLimit ∷ NoBuffer ∷ []
words_of (open_at port side kind) = EndpInvalid ∷ NotConnected ∷ ChanDirection ∷ ChanType ∷ ChanClosed ∷ AlreadyOpen ∷ NoBuffer ∷ []
words_of (packet_from port bytes) = EndpInvalid ∷ NotConnected ∷ ChanDirection ∷ ChanType ∷ ChanClosed ∷ NotOpen ∷ PktSize ∷ NoBuffer ∷ []
words_of (lend_at port) = EndpInvalid ∷ NotConnected ∷ ChanDirection ∷ ChanType ∷ ChanClosed ∷ NotOpen ∷ Empty ∷ []
words_of (packet_request_at port) = EndpInvalid ∷ NotConnected ∷ ChanDirection ∷ ChanType ∷ ChanClosed ∷ NotOpen ∷ RequestLimit ∷ []
words_of (release_of place) = BufInvalid ∷ []
words_of (scalar_from port bits value) = EndpInvalid ∷ NotConnected ∷ ChanDirection ∷ ChanType ∷ ChanClosed ∷ NotOpen ∷ NoBuffer ∷ []
words_of (scalar_at port bits) = EndpInvalid ∷ NotConnected ∷ ChanDirection ∷ ChanType ∷ ChanClosed ∷ NotOpen ∷ Empty ∷ SclSize ∷ []
words_of (close_at port side) = EndpInvalid ∷ NotConnected ∷ ChanDirection ∷ ChanClosed ∷ NoBuffer ∷ []
words_of (test_of request) = RequestInvalid ∷ Pending ∷ []
words_of (wait_for requests says_place) = RequestInvalid ∷ Timeout ∷ []
words_of (cancel_of request) = RequestInvalid ∷ TooLate ∷ []
words_of (raw_to to bytes) = LinkInvalid ∷ RawSound ∷ NoBuffer ∷ []
words_of turn_alone = []

-- the first word that holds
abbrev pub refusal : DomainState → ℕ → DomainCall → Option Refusal
refusal s node call = find (holds s node call) (words_of call)

-- all bytes of the packet that is taken, and the value of the scalar
abbrev pub lent_whole : Option Item → PlainAnswer
lent_whole None = refuses Empty
lent_whole (Some i) = gives (length i.content) i.content

abbrev pub value_of : Bits → Option Item → PlainAnswer
value_of bits None = refuses Empty
value_of bits (Some i) = tells (little_number (bytes_of_bits bits) i.content)

-- the first bytes of the item that is taken, at most as many as asked for
abbrev pub given : ℕ → Option Item → PlainAnswer
given max None = refuses Empty
given max (Some i) = gives (length i.content) (take max i.content)

-- the bytes of an item that a receive returns: at most as many as it asks for, and all of a packet
abbrev pub given_to : Asked → List ℕ → List ℕ
given_to (message_at at max) bytes = take max bytes
given_to other bytes = bytes

-- how a request was completed
abbrev pub result_by : Asked → Option Outcome → PlainResult
result_by asked None = ended_by Pending
result_by asked (Some (has_address address)) = found_at address
result_by asked (Some is_accepted) = was_accepted
result_by asked (Some (is_rejected reason)) = was_rejected reason
result_by asked (Some (has_item i)) = brought (length i.content) (given_to asked i.content)
result_by asked (Some (has_ended word)) = ended_by word

abbrev pub result_of : Option Request → PlainResult
result_of None = ended_by RequestInvalid
result_of (Some r) = result_by r.asked r.outcome

-- the answer of success
abbrev pub success : DomainState → ℕ → DomainCall → PlainAnswer
success s node (create_at port) = tells (first_address + s.endpoints_given)
success s node (delete_at port) = tells (length (queue_at s (local node port)))
success s node (lookup_of name) = tells s.requests_given
success s node (send_from port to priority bytes) = agrees
success s node (receive_at port max) = given max (best (λ i. i.priority) (queue_at s (local node port)))
success s node (request_at port max) = tells s.requests_given
success s node (available_at port) = tells (length (queue_at s (local node port)))
success s node (connect_from port to kind) = connects s.requests_given (s.channels_given + 1)
success s node (open_at port side kind) = agrees
success s node (packet_from port bytes) = agrees
success s node (lend_at port) = lent_whole (oldest (queue_at s (local node port)))
success s node (packet_request_at port) = tells s.requests_given
success s node (release_of place) = agrees
success s node (scalar_from port bits value) = agrees
success s node (scalar_at port bits) = value_of bits (oldest (queue_at s (local node port)))
success s node (close_at port Sender) = agrees
success s node (close_at port Receiver) = tells (length (queue_at s (local node port)))
success s node (test_of request) = completes None (result_of (request_at_place s request))
success s node (wait_for requests says_place) = completes (place_said s requests says_place) (result_of (request_at_place s (first_complete s requests)))
success s node (cancel_of request) = agrees
success s node (raw_to to bytes) = agrees
success s node turn_alone = agrees

abbrev pub answer_by : Option Refusal → PlainAnswer → PlainAnswer
answer_by (Some word) success = refuses word
answer_by None success = success

-- the answer of a call
abbrev pub answer : DomainState → ℕ → DomainCall → PlainAnswer
answer s node call = answer_by (refusal s node call) (success s node call)

abbrev pub unless_refused : {A : Type 0} → Option Refusal → A → A → A
unless_refused (Some word) refused done = refused
unless_refused None refused done = done

-- the frames that a call puts: those of success, and none at a refusal
abbrev pub puts : DomainState → ℕ → DomainCall → List (ℕ × List ℕ)
puts s node call = unless_refused (refusal s node call) [] (success_puts s node call)
