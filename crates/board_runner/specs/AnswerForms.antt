-- The forms of answers: what a call may be answered. A refusal is the answer to any call.
-- Source: docs/FORMATS.md, "Scenario files", the table of calls.
use Rattle.std.specs.Prelude.{◌≡◌, ◌≤◌, Bool, true, false, length, None, Some}
use Rattle.mc_base.specs.Limits.{asked_limit}
use Rattle.board_model.specs.declared.scenario.Call.{Call}
use Rattle.board_model.specs.declared.scenario.Call.TheVariants.{Create, Delete, Lookup, MsgSend, MsgRecv, MsgRecvI, MsgAvailable, Connect, OpenSend, OpenRecv, PktSend, PktRecv, PktRecvI, Release, SclSend, SclRecv, CloseSend, CloseRecv, Test, Wait, WaitAny, Cancel, Raw, Turn}
use Rattle.board_model.specs.Journal.{PlainAnswer, refuses, agrees, tells, connects, gives, completes}
use Rattle.board_model.specs.Logs.{bytes_answered}

-- `ok` alone, with a number, with a request and its channel, or with a size and bytes; `done` with a result, or with a place and a result
pub data AnswerForm : Type 0 where
  ok_alone : AnswerForm
  ok_number : AnswerForm
  ok_channel : AnswerForm
  ok_bytes : AnswerForm
  done_result : AnswerForm
  done_place : AnswerForm

-- the answer of success of each call
abbrev pub form_of_answer : Call → AnswerForm
form_of_answer (Create port) = ok_number
form_of_answer (Delete port) = ok_number
form_of_answer (Lookup name) = ok_number
form_of_answer (MsgSend port to priority bytes) = ok_alone
form_of_answer (MsgRecv port max) = ok_bytes
form_of_answer (MsgRecvI port max) = ok_number
form_of_answer (MsgAvailable port) = ok_number
form_of_answer (Connect port to kind) = ok_channel
form_of_answer (OpenSend port kind) = ok_alone
form_of_answer (OpenRecv port kind) = ok_alone
form_of_answer (PktSend port bytes) = ok_alone
form_of_answer (PktRecv port) = ok_bytes
form_of_answer (PktRecvI port) = ok_number
form_of_answer (Release label) = ok_alone
form_of_answer (SclSend port bits value) = ok_alone
form_of_answer (SclRecv port bits) = ok_number
form_of_answer (CloseSend port) = ok_alone
form_of_answer (CloseRecv port) = ok_number
form_of_answer (Test label) = done_result
form_of_answer (Wait label limit) = done_result
form_of_answer (WaitAny labels limit) = done_place
form_of_answer (Cancel label) = ok_alone
form_of_answer (Raw domain bytes) = ok_alone
form_of_answer Turn = ok_alone

abbrev pub has_form : AnswerForm → PlainAnswer → Bool
has_form form (refuses word) = true
has_form ok_alone agrees = true
has_form ok_number (tells n) = true
has_form ok_channel (connects request channel) = true
has_form ok_bytes (gives size bytes) = true
has_form done_result (completes None result) = true
has_form done_place (completes (Some place) result) = true
has_form form other = false

-- an answer to a call: in a form of the call, and with no more bytes than a line may ask for
pub record IsAnswerTo (call : Call) (a : PlainAnswer) : Type 0 where
  pub in_form : has_form (form_of_answer call) a ≡ true
  pub bytes_fit : length (bytes_answered a) ≤ asked_limit
