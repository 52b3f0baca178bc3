-- What a runner does with a line that waits.
-- Source: docs/PROFILE.md, "Waits" and "Serial run". A wait whose limit is 0 makes no turn of its own: it ends, or it begins and is answered
-- with `timeout`.
use Rattle.std.specs.Prelude.{◌≡◌, ℕ, ◌+◌, ◌≤◌, Bool, true, false, not, List, [], ◌∷◌, map, Option, None, Some, Ok, is_some}
use Rattle.mc_base.specs.Limits.{asked_limit}
use Rattle.mc_base.specs.declared.refusal.Refusal.{Refusal}
use Rattle.mc_base.specs.declared.request.Done.{Done}
use Rattle.mc_base.specs.declared.request.Done.TheVariants as done
use Rattle.mc_base.specs.declared.request.PacketId.{PacketId}
use Rattle.mc_base.specs.declared.request.RequestId.{RequestId}
use Rattle.lane_end.specs.AnySender.{AnySends}
use Rattle.lane_end.specs.AnyReceiver.{AnyReceives}
use Rattle.board_model.specs.declared.scenario.Call.{Call}
use Rattle.board_model.specs.declared.scenario.Call.TheVariants.{Wait, WaitAny}
use Rattle.board_model.specs.declared.scenario.CallLine.{CallLine}
use Rattle.board_model.specs.declared.scenario.Scenario.{Scenario}
use Rattle.board_model.specs.Journal.{Line, refuses}
use Rattle.board_model.specs.Language.{IsLawfulBoard}
use Rattle.board_model.specs.Step.{is_timeout}
use Rattle.board_model.specs.SerialRun.{Running, all_turned, is_waiting_at, last_call, numbers, rounds, station_of, with_beginning}
use Rattle.domain_core.specs.declared.WaitFault.{WaitFault}
use Rattle.domain_core.specs.declared.WaitFault.TheVariants as fault
use Rattle.domain_core.specs.Ends.{EndsMoved}
use Rattle.domain_core.specs.Waiting.{Polled, Waits}
use Rattle.mc_journal.specs.Entry.{plain_answer, bytes_in_answer}
use Rattle.board_runner.specs.declared.station.Station.{Station}
use Rattle.board_runner.specs.declared.line.Made.{Made}
use Rattle.board_runner.specs.Held.{Ids, id_or_none}
use Rattle.board_runner.specs.Lines.{NotesCalled}
use Rattle.board_runner.specs.Near.{RunDomain}
use Rattle.board_runner.specs.Runs.{At, IsNext, KeepCounts, Leads, OneLineMore}
use Rattle.board_runner.specs.Stations.{IsRun}

-- the ids that are held for the labels of a wait
abbrev pub ids_named : Ids → Call → List RequestId
ids_named ids (Wait label limit) = id_or_none ids label.items ∷ []
ids_named ids (WaitAny names limit) = map (λ l. id_or_none ids l.items) names.items
ids_named ids other = []

abbrev pub says_place : Call → Bool
says_place (WaitAny names limit) = true
says_place other = false

-- the packet that a request ended with
abbrev pub packet_in : Done → Option PacketId
packet_in (done.Packet id) = Some id
packet_in other = None

-- a message is given with so many bytes at most
abbrev pub GivesAtMost : ℕ → Done → Type 0
GivesAtMost n (done.Message got) = got.given ≤ n
GivesAtMost n other = Unit {0}

-- what a wait made that ended with no request: it was refused, or memory ran out
pub record IsRefused (word : Refusal) (m : Made) : Type 0 where
  pub answer : plain_answer m.answer ≡ refuses word
  pub given : m.given ≡ None
  pub lent : m.lent ≡ None
  pub no_bytes : bytes_in_answer m.answer ≡ 0

abbrev pub EndsWithout : WaitFault → Made → Type 0
EndsWithout (fault.Refused word) m = IsRefused word m
EndsWithout fault.NoMemory m = ⊥

-- ---- at a domain alone

-- a wait of a domain, with its turns: its answer, and the packet that it lends
pub record WaitsDomain (number limit : ℕ) (ids : List RequestId) (says : Bool) (old new : RunDomain) (lines lines' : List Line) (m : Made) : Type 0 where
  pub waits : Waits (EndsMoved AnySends AnyReceives) number limit ids says old new lines lines' (Some (plain_answer m.answer))
  pub given : m.given ≡ None
  pub lends : m.lent ≡ waits.ends.0.lent
  pub bytes_fit : bytes_in_answer m.answer ≤ asked_limit

-- the wait of a line. Its answer is not noted yet, and the packet that it lends is not held
pub record WaitsAlone (line : CallLine) (limit : ℕ) (old new : Station) (m : Made) : Type 0 where
  pub made : WaitsDomain (old.number + 1) limit (ids_named old.ids line.call) (says_place line.call) old.domain new.domain old.journal.lines new.journal.lines m
  pub ids : new.ids ≡ old.ids
  pub packets : new.packets ≡ old.packets
  pub number : new.number ≡ old.number
  pub dropped : new.dropped ≡ old.dropped
  pub domain_number : new.domain_number ≡ old.domain_number

-- with how it ends
pub record RunsWait (line : CallLine) (limit : ℕ) (old new : Station) : Type 0 where
  pub made : Made
  pub waited_to : Station
  pub waits : WaitsAlone line limit old waited_to made
  pub notes : NotesCalled line made waited_to new

-- it ended and was noted, or it has begun
abbrev pub NotesEnd : Bool → CallLine → Made → Station → Station → Type 0
NotesEnd true line m old new = NotesCalled line m old new
NotesEnd false line m old new = new ≡ old

-- the turns of a wait that began at a domain alone: a request is complete after the last of them and after no other, or so many were made
pub record PollsAlone (line : CallLine) (limit : ℕ) (is_settled : Bool) (old new : Station) : Type 0 where
  pub found : Option ℕ
  pub settled_is : is_settled ≡ is_some found
  pub polled : Polled (EndsMoved AnySends AnyReceives) limit (ids_named old.ids line.call) old.domain new.domain old.journal.lines new.journal.lines (Ok found)
  pub stays : new ≡ record old { domain = new.domain; journal = new.journal }

pub record EndsAtOnce (line : CallLine) (has_ended : Bool) (old new : Station) : Type 0 where
  pub made : Made
  pub waited_to : Station
  pub waits : WaitsAlone line 0 old waited_to made
  pub ends : has_ended ≡ not (is_timeout (plain_answer made.answer))
  pub notes : NotesEnd has_ended line made waited_to new

-- ---- on a board that runs serially

-- a wait that needs no turn is called, and another begins
abbrev pub after_test : Scenario → CallLine → Bool → Running → Running
after_test s line true r = last_call s line (station_of line r) r
after_test s line false r = with_beginning s line (station_of line r) r

pub record HasTested (s : Scenario) (line : CallLine) (has_ended : Bool) (r : Running) (new : List Station) : Type 0 where
  pub ends : is_waiting_at line (station_of line r) ≡ not has_ended
  pub still : is_waiting_at line (station_of line (with_beginning s line (station_of line r) r)) ≡ not has_ended
  pub stands : IsRun s (after_test s line has_ended r) new

-- whatever run it was in which the line, which waits, comes next
abbrev pub TestsWait : CallLine → Bool → ℕ → List Station → List Station → Type 0
TestsWait line has_ended at old new = (s : Scenario) (r : Running) → IsLawfulBoard s → At at (IsNext s line) old → IsRun s r old → HasTested s line has_ended r new

-- a wait that begins counts nothing
abbrev pub CountsTest : Bool → ℕ → List Station → List Station → Type 0
CountsTest true at old new = OneLineMore at old new
CountsTest false at old new = KeepCounts old new

-- a round: all domains make a turn, in rising number
abbrev pub TurnsAll : List Station → List Station → Type 0
TurnsAll old new = Leads (λ s r. all_turned s r (numbers s)) old new

-- the rounds of a wait led to this run, in which the line is called
pub record HasSettled (s : Scenario) (line : CallLine) (is_settled : Bool) (limit : ℕ) (r : Running) (new : List Station) : Type 0 where
  pub run : Running
  pub stands : IsRun s run new
  pub waits : is_waiting_at line (station_of line run) ≡ not is_settled
  pub leads : rounds s line limit r ≡ last_call s line (station_of line run) run

abbrev pub RoundsUntil : CallLine → Bool → ℕ → ℕ → List Station → List Station → Type 0
RoundsUntil line is_settled limit at old new =
    (s : Scenario) (r : Running) → IsLawfulBoard s → At at (IsNext s line) old → IsRun s r old → is_waiting_at line (station_of line r) ≡ true → HasSettled s line is_settled limit r new

-- a wait that still waits is answered with `timeout`
abbrev pub TimesOut : CallLine → ℕ → List Station → List Station → Type 0
TimesOut line at old new =
    (s : Scenario) (r : Running) → IsLawfulBoard s → At at (IsNext s line) old → IsRun s r old → is_waiting_at line (station_of line r) ≡ true → IsRun s (last_call s line (station_of line r) r) new
