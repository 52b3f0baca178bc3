-- Where the server stands, and where it goes when it is told an answer.
-- Source: the code of the server.
use Rattle.std.specs.Prelude.{ℕ, ◌+◌, nat_lt, nat_le, Bool, true, false, List, slice_set, slice_index_or, Option, Some, None, is_some, Result, Ok, Err, if◌then◌else◌}
use Rattle.std.specs.List.{list_all}
use Rattle.board_model.specs.declared.scenario.Call.TheVariants.{Create, Lookup}
use Rattle.board_model.specs.declared.scenario.CallLine.{CallLine}
use Rattle.board_model.specs.Journal.{PlainAnswer}
use Rattle.board_model.specs.Logs.{bytes_answered}
use Rattle.board_model.specs.MadeLines.{once, labelled, waited}
use Rattle.call_service.specs.declared.request.ServiceFault.{ServiceFault}
use Rattle.call_service.specs.Handled.{State, Handled, handled}
use Rattle.call_service.specs.Served.{rising}
use Rattle.call_logs.specs.Following.{is_refused}
use Rattle.call_logs.specs.CallBytes.{bye_in}
use Rattle.call_logs.specs.Roles.{endpoint_of, receive_line, reply_line}
use Rattle.call_actor.specs.declared.rules.ServerRole.{ServerRole}
use Rattle.call_actor.specs.ServerLabels.{label_for}
use Rattle.call_actor.specs.ServerLimits.{limit}
use Rattle.call_actor.specs.declared.place.ServerPlace.{ServerPlace}
use Rattle.call_actor.specs.declared.place.ServerPlace.TheVariants.{New, Created, LookedUp, Waited, Receiving, Replying, Ended}

-- what it holds: its service, the reply that it wrote last, how many messages it received, and of which clients it has the bye, by their numbers
pub record Held : Type 0 where
  pub service : State
  pub reply : List ℕ
  pub received : ℕ
  pub left : List Bool

-- where it goes, with what it holds, and its line
pub record ServerGoing : Type 0 where
  pub place : ServerPlace
  pub held : Held
  pub line : Option CallLine

abbrev pub goes : ServerPlace → Held → CallLine → ServerGoing
goes place held line = record { place = place; held = held; line = Some line }

abbrev pub ends : Held → ServerGoing
ends held = record { place = Ended; held = held; line = None }

abbrev pub create_line : CallLine
create_line = once 0 (Create 1)

abbrev pub lookup_line : ℕ → CallLine
lookup_line d = labelled 0 (label_for d) (Lookup (endpoint_of d))

abbrev pub wait_line : ℕ → CallLine
wait_line d = waited 0 (label_for d)

-- a client is looked up, or the first message received where there is no further client
abbrev pub looks_up : ServerRole → ℕ → Held → ServerGoing
looks_up c d held = if nat_le d c.clients then goes (LookedUp d) held (lookup_line d) else goes Receiving held (receive_line 0)

-- ---- a message

abbrev pub marked : Option ℕ → List Bool → List Bool
marked None left = left
marked (Some d) left = slice_set left d true

-- what it holds after a message, by what its service did with it
abbrev pub with_message : Held → Handled → List ℕ → Held
with_message held h message = record { service = h.service; reply = h.reply; received = held.received + 1; left = marked (bye_in message) held.left }

abbrev pub have_left : ℕ → List Bool → Bool
have_left clients left = list_all (λ d. slice_index_or left d false) (rising 1 clients)

abbrev pub replies : Held → Result ℕ ServiceFault → ServerGoing
replies held (Ok to) = goes Replying held (reply_line to held.reply)
replies held (Err fault) = ends held

abbrev pub bye_goes : ServerRole → Held → ServerGoing
bye_goes c held = if have_left c.clients held.left then ends held else goes Receiving held (receive_line 0)

abbrev pub after_message : ServerRole → Held → Result ℕ ServiceFault → List ℕ → ServerGoing
after_message c held answer message =
    if nat_lt (limit c) held.received then ends held
    else if is_some (bye_in message) then bye_goes c held
    else replies held answer

abbrev pub takes_message : ServerRole → Held → List ℕ → ServerGoing
takes_message c held message =
    after_message c (with_message held (handled held.service message held.reply) message) (handled held.service message held.reply).answer message

-- ---- an answer

abbrev pub going_on : ServerRole → ServerPlace → Held → PlainAnswer → ServerGoing
going_on c Created held a = looks_up c 1 held
going_on c (LookedUp d) held a = goes (Waited d) held (wait_line d)
going_on c (Waited d) held a = looks_up c (d + 1) held
going_on c Receiving held a = takes_message c held (bytes_answered a)
going_on c Replying held a = goes Receiving held (receive_line 0)
going_on c place held a = ends held

abbrev pub going_told : ServerRole → ServerPlace → Held → PlainAnswer → ServerGoing
going_told c place held a = if is_refused a then ends held else going_on c place held a

abbrev pub going : ServerRole → ServerPlace → Held → Option PlainAnswer → ServerGoing
going c place held (Some a) = going_told c place held a
going c New held None = goes Created held create_line
going c place held None = ends held
