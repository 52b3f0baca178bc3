-- Relays: what the domains of a relay are to do. The line that is due after a log is the next of the domain's opening, and then hangs on the
-- last call and its answer.
-- Source: docs/PROFILE.md, "Relays".
use Rattle.std.specs.Prelude.{◌≡◌, ℕ, ◌+◌, nat_lt, Bool, true, false, List, [], ◌∷◌, ◌++◌, codes, length, count_by, slice_get, Option, Some, None, if◌then◌else◌}
use Rattle.mc_base.specs.declared.name.EndName.{EndName}
use Rattle.mc_base.specs.declared.channel.Kind.TheVariants.{Packet}
use Rattle.mc_base.specs.declared.refusal.Refusal.TheVariants.{ChanClosed}
use Rattle.board_model.specs.declared.scenario.Call.{Call}
use Rattle.board_model.specs.declared.scenario.Call.TheVariants.{Create, Lookup, Connect, OpenSend, OpenRecv, PktRecv, PktSend, Release, CloseSend, CloseRecv}
use Rattle.board_model.specs.declared.scenario.CallLine.{CallLine}
use Rattle.board_model.specs.Journal.{PlainAnswer, agrees, gives, refuses}
use Rattle.board_model.specs.Forms.{label_of}
use Rattle.board_model.specs.Logs.{LoggedCall}
use Rattle.board_model.specs.MadeLines.{once, tried, labelled, labelled_tried, waited, packet_label}
use Rattle.hop_relay.specs.declared.role.Role.{Role}
use Rattle.hop_relay.specs.declared.role.Role.TheVariants.{First, Middle, Last}

-- ---- the lines

-- the endpoint at which a domain receives
abbrev pub receiver_of : ℕ → EndName
receiver_of d = record { domain = d; node = 0; port = 2 }

-- the endpoint of the next domain is looked up, and a channel to it is made
abbrev pub connecting : ℕ → List CallLine
connecting d =
    labelled d (codes "a") (Lookup (receiver_of (d + 1))) ∷ waited d (codes "a")
    ∷ labelled_tried d (codes "c") (Connect 1 (receiver_of (d + 1)) Packet) ∷ waited d (codes "c") ∷ []

abbrev pub open_send_line : ℕ → CallLine
open_send_line d = tried d (OpenSend 1 Packet)

abbrev pub open_recv_line : ℕ → CallLine
open_recv_line d = tried d (OpenRecv 2 Packet)

-- the lines of a domain before its first packet
abbrev pub opening : Role → List CallLine
opening (First packets) = once 0 (Create 1) ∷ (connecting 0 ++ open_send_line 0 ∷ [])
opening (Middle d most) = once d (Create 1) ∷ once d (Create 2) ∷ (connecting d ++ open_recv_line d ∷ open_send_line d ∷ [])
opening (Last d most) = once d (Create 2) ∷ open_recv_line d ∷ []

abbrev pub send_line : ℕ → List ℕ → CallLine
send_line d bytes = tried d (PktSend 1 bytes)

-- the receive of this number, from 1, and the release of its packet
abbrev pub receive_line : ℕ → ℕ → CallLine
receive_line d k = labelled_tried d (packet_label k) (PktRecv 2)

abbrev pub release_line : ℕ → ℕ → CallLine
release_line d k = tried d (Release (label_of (packet_label k)))

abbrev pub close_send_line : ℕ → CallLine
close_send_line d = tried d (CloseSend 1)

abbrev pub close_recv_line : ℕ → CallLine
close_recv_line d = tried d (CloseRecv 2)

-- ---- the line that is due

abbrev pub is_send : Call → Bool
is_send (PktSend port bytes) = true
is_send other = false

abbrev pub is_receive : Call → Bool
is_receive (PktRecv port) = true
is_receive other = false

-- how many of the calls of a log send or receive a packet
abbrev pub sends : List LoggedCall → ℕ
sends log = count_by (λ l. is_send l.line.call) log

abbrev pub receives : List LoggedCall → ℕ
receives log = count_by (λ l. is_receive l.line.call) log

-- the next packet is sent, and after the last the channel is closed
abbrev pub next_packet : Option (List ℕ) → CallLine
next_packet (Some bytes) = send_line 0 bytes
next_packet None = close_send_line 0

-- the line that is due after the opening, where so many packets were sent and so many receives were called, after this call and its answer
abbrev pub due_after : Role → (sent received : ℕ) → Call → PlainAnswer → Option CallLine
due_after (First packets) n k (OpenSend port kind) agrees = Some (next_packet (slice_get packets n))
due_after (First packets) n k (PktSend port bytes) agrees = Some (next_packet (slice_get packets n))
due_after (Middle d most) n k (OpenSend port kind) agrees = Some (receive_line d 1)
due_after (Middle d most) n k (PktRecv port) (gives size bytes) = if nat_lt most k then None else Some (send_line d bytes)
due_after (Middle d most) n k (PktRecv port) (refuses ChanClosed) = Some (close_send_line d)
due_after (Middle d most) n k (PktSend port bytes) agrees = Some (release_line d k)
due_after (Middle d most) n k (Release label) agrees = Some (receive_line d (k + 1))
due_after (Middle d most) n k (CloseSend port) agrees = Some (close_recv_line d)
due_after (Last d most) n k (OpenRecv port kind) agrees = Some (receive_line d 1)
due_after (Last d most) n k (PktRecv port) (gives size bytes) = if nat_lt most k then None else Some (release_line d k)
due_after (Last d most) n k (PktRecv port) (refuses ChanClosed) = Some (close_recv_line d)
due_after (Last d most) n k (Release label) agrees = Some (receive_line d (k + 1))
due_after role n k call answer = None

abbrev pub is_refused : PlainAnswer → Bool
is_refused (refuses word) = true
is_refused other = false

abbrev pub last_after : Option LoggedCall → List LoggedCall → Option LoggedCall
last_after before [] = before
last_after before (l ∷ ls) = last_after (Some l) ls

-- the last call of a log
abbrev pub last_call : List LoggedCall → Option LoggedCall
last_call log = last_after None log

-- in the opening: its next line, unless the call before was refused
abbrev pub due_in_opening : CallLine → Option LoggedCall → Option CallLine
due_in_opening line None = Some line
due_in_opening line (Some l) = if is_refused l.answer then None else Some line

-- after the opening, which is never empty
abbrev pub due_behind : Role → List LoggedCall → Option LoggedCall → Option CallLine
due_behind role log None = None
due_behind role log (Some l) = due_after role (sends log) (receives log) l.line.call l.answer

abbrev pub due_by : Role → List LoggedCall → Option CallLine → Option CallLine
due_by role log (Some line) = due_in_opening line (last_call log)
due_by role log None = due_behind role log (last_call log)

-- the line that is due after a log, or none
abbrev pub due : Role → List LoggedCall → Option CallLine
due role log = due_by role log (slice_get (opening role) (length log))

-- ---- logs of a role

abbrev pub FitsFrom : Role → List LoggedCall → List LoggedCall → Type 0
FitsFrom role before [] = Unit {0}
FitsFrom role before (l ∷ ls) = (due role before ≡ Some l.line) × FitsFrom role (before ++ l ∷ []) ls

-- each line of a log is due after those before it
abbrev pub FitsRole : Role → List LoggedCall → Type 0
FitsRole role log = FitsFrom role [] log

-- and no line is due after them
abbrev pub HasEnded : Role → List LoggedCall → Type 0
HasEnded role log = due role log ≡ None
