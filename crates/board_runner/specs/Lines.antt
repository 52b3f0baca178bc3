-- What a runner does with the call of a line at the line's station.
-- Source: docs/PROFILE.md, "Serial run" and "Tries".
use Rattle.std.specs.Prelude.{◌≡◌, ℕ, ◌+◌, ◌-◌, ◌≤◌, ◌<◌, ◌^◌, ◌*◌, Bool, true, false, ◌&&◌, ◌||◌, Option, Some, slice_get, length, option_map, if◌then◌else◌}
use Rattle.std.specs.List.{list_all}
use Rattle.mc_base.specs.Letter.{bytes_of_bits}
use Rattle.mc_base.specs.Limits.{asked_limit, longest_frame}
use Rattle.mc_base.specs.declared.channel.Side.TheVariants.{Sender, Receiver}
use Rattle.mc_base.specs.declared.request.Done.{Done}
use Rattle.mc_base.specs.declared.request.Done.TheVariants as done
use Rattle.mc_base.specs.declared.request.PacketId.{PacketId}
use Rattle.mc_base.specs.declared.request.RequestId.{RequestId}
use Rattle.lane_end.specs.AnySender.{AnySends}
use Rattle.lane_end.specs.AnyReceiver.{AnyReceives}
use Rattle.board_model.specs.declared.scenario.Call.{Call}
use Rattle.board_model.specs.declared.scenario.Call.TheVariants.{Create, Delete, Lookup, MsgSend, MsgRecv, MsgRecvI, MsgAvailable, Connect, OpenSend, OpenRecv, PktSend, PktRecv, PktRecvI, Release, SclSend, SclRecv, CloseSend, CloseRecv, Test, Wait, WaitAny, Cancel, Raw, Turn}
use Rattle.board_model.specs.declared.scenario.CallLine.{CallLine}
use Rattle.board_model.specs.DomainCall.{DomainCall, create_at, delete_at, lookup_of, send_from, receive_at, request_at, available_at, connect_from, open_at, packet_from, lend_at, packet_request_at, release_of, scalar_from, scalar_at, close_at, test_of, wait_for, cancel_of, raw_to, turn_alone}
use Rattle.board_model.specs.Journal.{Line, Visit, idle_line, is_idle, PlainAnswer, again, called, noted}
use Rattle.board_model.specs.Labels.{request_given}
use Rattle.board_model.specs.Scenario.{label_in}
use Rattle.board_model.specs.Step.{is_tried}
use Rattle.board_model.specs.SerialRun.{word_in}
use Rattle.board_model.specs.Tallies.{is_delete, number_told}
use Rattle.domain_core.specs.Calls.{Calls}
use Rattle.domain_core.specs.DomainView.{place_of_id, place_of_packet_id}
use Rattle.domain_core.specs.Ends.{EndsMoved}
use Rattle.mc_journal.specs.Entry.{plain_answer, bytes_in_answer}
use Rattle.std.specs.Prelude.{List, [], ◌∷◌, map}
use Rattle.board_runner.specs.declared.station.Station.{Station}
use Rattle.board_runner.specs.declared.line.Made.{Made}
use Rattle.board_runner.specs.Held.{Ids, PacketIds, id_or_none, packet_or_none, TellsId}
use Rattle.board_runner.specs.LendingLabels.{lending_label_by}
use Rattle.board_runner.specs.Near.{RunDomain}

-- the call of a line as the domain knows it, by the ids that are held for labels
abbrev pub call_by : Ids → PacketIds → List RequestId → List PacketId → Call → DomainCall
call_by ids packets standing lent (Create port) = create_at port
call_by ids packets standing lent (Delete port) = delete_at port
call_by ids packets standing lent (Lookup name) = lookup_of name
call_by ids packets standing lent (MsgSend port to priority bytes) = send_from port to priority bytes
call_by ids packets standing lent (MsgRecv port max) = receive_at port max
call_by ids packets standing lent (MsgRecvI port max) = request_at port max
call_by ids packets standing lent (MsgAvailable port) = available_at port
call_by ids packets standing lent (Connect port to kind) = connect_from port to kind
call_by ids packets standing lent (OpenSend port kind) = open_at port Sender kind
call_by ids packets standing lent (OpenRecv port kind) = open_at port Receiver kind
call_by ids packets standing lent (PktSend port bytes) = packet_from port bytes
call_by ids packets standing lent (PktRecv port) = lend_at port
call_by ids packets standing lent (PktRecvI port) = packet_request_at port
call_by ids packets standing lent (Release label) = release_of (place_of_packet_id lent (packet_or_none packets label.items))
call_by ids packets standing lent (SclSend port bits value) = scalar_from port bits value
call_by ids packets standing lent (SclRecv port bits) = scalar_at port bits
call_by ids packets standing lent (CloseSend port) = close_at port Sender
call_by ids packets standing lent (CloseRecv port) = close_at port Receiver
call_by ids packets standing lent (Test label) = test_of (place_of_id standing (id_or_none ids label.items))
call_by ids packets standing lent (Wait label limit) = wait_for (place_of_id standing (id_or_none ids label.items) ∷ []) false
call_by ids packets standing lent (WaitAny names limit) = wait_for (map (λ l. place_of_id standing (id_or_none ids l.items)) names.items) true
call_by ids packets standing lent (Cancel label) = cancel_of (place_of_id standing (id_or_none ids label.items))
call_by ids packets standing lent (Raw domain bytes) = raw_to domain bytes
call_by ids packets standing lent Turn = turn_alone

abbrev pub call_at_station : CallLine → Station → DomainCall
call_at_station line st = call_by st.ids st.packets st.domain.ids st.domain.packets line.call

-- a receive asks for so many bytes at most, a scalar's value fits its bits, a wait for several requests names one at least, and a raw
-- frame has 1 to 512 bytes
abbrev pub HasFitNumbers : ℕ → Call → Type 0
HasFitNumbers n (MsgRecv port max) = max ≤ n
HasFitNumbers n (SclSend port bits value) = value < 2 ^ (8 * bytes_of_bits bits)
HasFitNumbers n (WaitAny names limit) = 1 ≤ length names.items
HasFitNumbers n (Raw domain bytes) = (1 ≤ length bytes) × (length bytes ≤ longest_frame)
HasFitNumbers n other = Unit {0}

-- how many messages a call dropped, where it is a delete
abbrev pub dropped_by : Call → PlainAnswer → ℕ
dropped_by call a = if is_delete call then number_told a else 0

-- the last line is one of idle turns
abbrev pub is_idle_line : Option Line → Bool
is_idle_line (Some (idle_line n)) = true
is_idle_line other = false

abbrev pub ends_idle : List Line → Bool
ends_idle lines = is_idle_line (slice_get lines (length lines - 1))

abbrev pub is_turn : Call → Bool
is_turn Turn = true
is_turn other = false

-- A call that is a turn alone, or is answered by a word with which it may be made again, and whose lines end with an idle turn. It put
-- nothing, since each frame that is put has a line, and gave nothing back
abbrev pub is_quiet : Call → PlainAnswer → List Line → Bool
is_quiet call a lines = (is_turn call || is_tried a) && ends_idle lines

-- a test gave so many bytes of a message at most, and no packet
abbrev pub GivesWithin : ℕ → Done → Type 0
GivesWithin n (done.Message got) = got.given ≤ n
GivesWithin n (done.Packet id) = ⊥
GivesWithin n other = Unit {0}

-- a call with its turn at a domain alone: its answer, and the ids that it gives, of a request and of a packet
pub record CallsDomain (node : ℕ) (call : DomainCall) (old new : RunDomain) (lines lines' : List Line) (m : Made) : Type 0 where
  pub calls : Calls (EndsMoved AnySends AnyReceives) node call old new lines lines' (plain_answer m.answer) m.given
  pub gives : option_map (λ i. i.serial) m.given ≡ request_given calls.turned_to.state node call
  pub lends : m.lent ≡ calls.does.lent
  pub bytes_fit : bytes_in_answer m.answer ≤ asked_limit

-- the call of a line, with its turn. Its answer is not noted yet, and the ids that it gives are not held
pub record MakesCall (line : CallLine) (old new : Station) (m : Made) : Type 0 where
  pub calls : Calls (EndsMoved AnySends AnyReceives) line.node (call_at_station line old) old.domain new.domain old.journal.lines new.journal.lines (plain_answer m.answer) m.given
  pub gives : option_map (λ i. i.serial) m.given ≡ request_given calls.turned_to.state line.node (call_at_station line old)
  pub lends : m.lent ≡ calls.does.lent
  pub ids : new.ids ≡ old.ids
  pub packets : new.packets ≡ old.packets
  pub number : new.number ≡ old.number
  pub dropped : new.dropped ≡ old.dropped
  pub domain_number : new.domain_number ≡ old.domain_number
  pub bytes_fit : bytes_in_answer m.answer ≤ asked_limit
  pub drops_fit : dropped_by line.call (plain_answer m.answer) < 2 ^ 32

-- a call that is made again is noted by its word, and all else stays
pub record NotesAgain (m : Made) (old new : Station) : Type 0 where
  pub told : new.journal.lines ≡ noted old.journal.lines (again (word_in (plain_answer m.answer)))
  pub domain : new.domain ≡ old.domain
  pub ids : new.ids ≡ old.ids
  pub packets : new.packets ≡ old.packets
  pub number : new.number ≡ old.number
  pub dropped : new.dropped ≡ old.dropped
  pub domain_number : new.domain_number ≡ old.domain_number

-- the last call of a line is noted by its answer. The line is counted, and so is what it dropped; the ids that it gave are held
pub record NotesCalled (line : CallLine) (m : Made) (old new : Station) : Type 0 where
  pub told : new.journal.lines ≡ noted old.journal.lines (called (old.number + 1) (plain_answer m.answer))
  pub domain : new.domain ≡ old.domain
  pub ids : TellsId (label_in line) m.given old.ids new.ids
  pub packets : TellsId (lending_label_by line.call (plain_answer m.answer) (label_in line)) m.lent old.packets new.packets
  pub number : new.number ≡ old.number + 1
  pub dropped : new.dropped ≡ old.dropped + dropped_by line.call (plain_answer m.answer)
  pub domain_number : new.domain_number ≡ old.domain_number

abbrev pub NotesAnswer : Bool → CallLine → Made → Station → Station → Type 0
NotesAnswer true line m old new = NotesAgain m old new
NotesAnswer false line m old new = NotesCalled line m old new

-- where a call was quiet its turn was idle
abbrev pub IsIdleWhere : Bool → List Visit → Type 0
IsIdleWhere true visits = list_all is_idle visits ≡ true
IsIdleWhere false visits = Unit {0}

-- the call was made and noted, and is made again where it may be and its word is one of those
pub record Tries (line : CallLine) (may_try : Bool) (old new : Station) (is_again is_quiet : Bool) : Type 0 where
  pub made : Made
  pub called_to : Station
  pub makes : MakesCall line old called_to made
  pub again_is : is_again ≡ (is_tried (plain_answer made.answer) && may_try)
  pub notes : NotesAnswer is_again line made called_to new
  pub idle : IsIdleWhere is_quiet makes.calls.visits
