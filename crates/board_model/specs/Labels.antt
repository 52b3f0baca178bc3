-- Labels: the names that a script gives to its requests and packets.
-- Source: docs/PROFILE.md, "Requests" and "Packets and scalars". A label whose call was refused names neither, and a request that ended or a
-- packet that was released is none.
use Rattle.std.specs.Prelude.{ℕ, Bool, true, false, List, [], ◌∷◌, ◌++◌, map, find, Option, Some, None, option_map, option_and_then}
use Rattle.std.specs.Str.{bytes_eq}
use Rattle.mc_base.specs.declared.channel.Side.TheVariants.{Sender, Receiver}
use Rattle.board_model.specs.declared.scenario.Call.{Call}
use Rattle.board_model.specs.declared.scenario.Call.TheVariants.{Create, Delete, Lookup, MsgSend, MsgRecv, MsgRecvI, MsgAvailable, Connect, OpenSend, OpenRecv, PktSend, PktRecv, PktRecvI, Release, SclSend, SclRecv, CloseSend, CloseRecv, Test, Wait, WaitAny, Cancel, Raw, Turn}
use Rattle.board_model.specs.declared.scenario.CallLine.{CallLine}
use Rattle.board_model.specs.Scenario.{label_in}
use Rattle.board_model.specs.DomainCall.{DomainCall, create_at, delete_at, lookup_of, send_from, receive_at, request_at, available_at, connect_from, open_at, packet_from, lend_at, packet_request_at, release_of, scalar_from, scalar_at, close_at, test_of, wait_for, cancel_of, raw_to, turn_alone}
use Rattle.board_model.specs.State.{DomainState, Asked, Outcome, Request, packet_at, has_item, request_at_place, place_of_request, place_of_packet}
use Rattle.board_model.specs.Answer.{is_complete_at, first_complete, refusal, unless_refused}

-- a label, and the serial of the request or packet that it names
pub record Labelled : Type 0 where
  pub label : List ℕ
  pub serial : ℕ

-- the requests and the packets that labels name. A label of a request for a packet names the packet too, once it is lent
pub record Labels : Type 0 where
  pub requests : List Labelled
  pub packets : List Labelled

abbrev pub no_labels : Labels
no_labels = record { requests = []; packets = [] }

-- the serial of a label
abbrev pub serial_of : List Labelled → List ℕ → Option ℕ
serial_of labels label = option_map (λ l. l.serial) (find (λ l. bytes_eq l.label label) labels)

-- the place of its request among the domain's requests
abbrev pub place_of_label : List Labelled → DomainState → List ℕ → Option ℕ
place_of_label requests s label = option_and_then (place_of_request s) (serial_of requests label)

-- the place of its packet among those that are lent
abbrev pub place_lent : List Labelled → DomainState → List ℕ → Option ℕ
place_lent packets s label = option_and_then (place_of_packet s) (serial_of packets label)

-- the call of a line, as the domain knows it
abbrev pub call_of : Labels → DomainState → Call → DomainCall
call_of labels s (Create port) = create_at port
call_of labels s (Delete port) = delete_at port
call_of labels s (Lookup name) = lookup_of name
call_of labels s (MsgSend port to priority bytes) = send_from port to priority bytes
call_of labels s (MsgRecv port max) = receive_at port max
call_of labels s (MsgRecvI port max) = request_at port max
call_of labels s (MsgAvailable port) = available_at port
call_of labels s (Connect port to kind) = connect_from port to kind
call_of labels s (OpenSend port kind) = open_at port Sender kind
call_of labels s (OpenRecv port kind) = open_at port Receiver kind
call_of labels s (PktSend port bytes) = packet_from port bytes
call_of labels s (PktRecv port) = lend_at port
call_of labels s (PktRecvI port) = packet_request_at port
call_of labels s (Release label) = release_of (place_lent labels.packets s label.items)
call_of labels s (SclSend port bits value) = scalar_from port bits value
call_of labels s (SclRecv port bits) = scalar_at port bits
call_of labels s (CloseSend port) = close_at port Sender
call_of labels s (CloseRecv port) = close_at port Receiver
call_of labels s (Test label) = test_of (place_of_label labels.requests s label.items)
call_of labels s (Wait label limit) = wait_for (place_of_label labels.requests s label.items ∷ []) false
call_of labels s (WaitAny names limit) = wait_for (map (λ l. place_of_label labels.requests s l.items) names.items) true
call_of labels s (Cancel label) = cancel_of (place_of_label labels.requests s label.items)
call_of labels s (Raw domain bytes) = raw_to domain bytes
call_of labels s Turn = turn_alone

-- the serial of the request that a successful call creates
abbrev pub success_request : DomainState → DomainCall → Option ℕ
success_request s (lookup_of name) = Some s.requests_given
success_request s (request_at port max) = Some s.requests_given
success_request s (connect_from port to kind) = Some s.requests_given
success_request s (packet_request_at port) = Some s.requests_given
success_request s other = None

abbrev pub request_given : DomainState → ℕ → DomainCall → Option ℕ
request_given s node call = unless_refused (refusal s node call) None (success_request s call)

-- the serial of the packet that a test of a request lends: that of a complete request for a packet
abbrev pub packet_brought : DomainState → Asked → Option Outcome → Option ℕ
packet_brought s (packet_at at) (Some (has_item i)) = Some s.packets_lent
packet_brought s asked outcome = None

abbrev pub packet_tested : DomainState → Option Request → Option ℕ
packet_tested s None = None
packet_tested s (Some r) = packet_brought s r.asked r.outcome

-- the serial of the packet that a successful call lends
abbrev pub success_packet : DomainState → DomainCall → Option ℕ
success_packet s (lend_at port) = Some s.packets_lent
success_packet s (test_of request) = packet_tested s (request_at_place s request)
success_packet s (wait_for requests says_place) = packet_tested s (request_at_place s (first_complete s requests))
success_packet s other = None

abbrev pub packet_given : DomainState → ℕ → DomainCall → Option ℕ
packet_given s node call = unless_refused (refusal s node call) None (success_packet s call)

-- the labels with one more, where a line has a label and its call created something for it
abbrev pub with_label : List Labelled → Option (List ℕ) → Option ℕ → List Labelled
with_label labels (Some label) (Some serial) = labels ++ record { label = label; serial = serial } ∷ []
with_label labels label serial = labels

-- the label that a packet is lent under: the line's own, or that of the request which the call reports complete
abbrev pub is_complete_label : Labels → DomainState → List ℕ → Bool
is_complete_label labels s label = is_complete_at s (place_of_label labels.requests s label)

abbrev pub lending_label : Labels → DomainState → Call → Option (List ℕ) → Option (List ℕ)
lending_label labels s (Test label) own = Some label.items
lending_label labels s (Wait label limit) own = Some label.items
lending_label labels s (WaitAny names limit) own = find (is_complete_label labels s) (map (λ l. l.items) names.items)
lending_label labels s call own = own

-- the labels after a line whose call is made in this state
abbrev pub labels_after : Labels → DomainState → CallLine → Labels
labels_after labels s line = record {
  requests = with_label labels.requests (label_in line) (request_given s line.node (call_of labels s line.call));
  packets = with_label labels.packets (lending_label labels s line.call (label_in line)) (packet_given s line.node (call_of labels s line.call));
}
