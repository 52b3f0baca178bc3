-- What the run of a board leaves is written as a report, in either mode.
use Rattle.std.proofs.Common.{◌≡◌, ℕ, List, [], Result, Ok, Err, length, ap, arith, refl, sym, subst}
use Rattle.std.specs.Prelude.{IfOk}
use Rattle.mc_base.specs.declared.refusal.NoMemory.{NoMemory}
use Rattle.std.proofs.lemmas.List.{length-map}
use Rattle.board_model.specs.declared.scenario.Scenario.{Scenario}
use Rattle.board_model.specs.SerialRun.{serial_run}
use Rattle.board_model.specs.Report.{Mode, serial, threads, lines_of}
use Rattle.board_model.specs.Board.{DomainJournal, IsBoardRun, AreWhole}
use Rattle.board_model.specs.Language.{IsLawfulBoard}
use Rattle.board_model.proofs.BoardsNeighbours.{rising-length}
use Rattle.board_model.proofs.Headlines.{linked_headline}
use Rattle.board_model.proofs.LawfulBoards.{lawful_is_linked}
use Rattle.board_model.proofs.LawfulRuns.{lawful_run}
use Rattle.mc_journal.specs.Written.{Written}
use Rattle.board_runner.specs.declared.outcome.Outcome.{Outcome}
use Rattle.board_runner.specs.Outcome.{IsOutcome}
use Rattle.board_runner.specs.RingLines.{HasRingsFor, outcome_report, report_left}
use Rattle.board_runner.specs.ThreadRun.{IsThreadRun}
use Rattle.board_runner.proofs.RingLemmas.{told-of-links}
use Rattle.scenario_cli.specs.Due.{IsSound, IsScenario, IsReport}
use Rattle.scenario_cli.specs.Left.{IsLeft, IsReportOf}
use Rattle.scenario_cli.specs.VerdictText.{HasNoWrongLine}
use Rattle.scenario_cli.proofs.RunsChecked.{left-checked}

-- the headline holds of every whole run of the board
pub sound_of : (s : Scenario) (js : List DomainJournal) → IsLawfulBoard s → IsBoardRun s js → AreWhole s js → IsSound s js
sound_of s js lawful run whole = record { board_run = run; whole = whole; headline = linked_headline s js (lawful_is_linked s lawful) run }

left_serial : (s : Scenario) (o : Outcome) → IsLawfulBoard s → IsOutcome s o (serial_run s) → o.rings ≡ [] → IsLeft serial s o
left_serial s o lawful is none =
    let run = lawful_run s lawful in
    record { journals = serial_run s; left = refl; sound = sound_of s (serial_run s) lawful run.0 run.1; told = is; rings_left = none }

pub left_threads : (s : Scenario) (o : Outcome) → IsLawfulBoard s → IsThreadRun s o → IsLeft threads s o
left_threads s o lawful is = record { journals = is.journals; left = tt; sound = sound_of s is.journals lawful is.run is.whole; told = is.tells; rings_left = (is.rings, is.in_time) }

-- so it is with what a run answers
pub if_left_serial : (s : Scenario) (r : Result Outcome NoMemory) → IsLawfulBoard s → IfOk r (λ o. IsOutcome s o (serial_run s)) → IfOk r (λ o. o.rings ≡ []) → IfOk r (IsLeft serial s)
if_left_serial s (Ok o) lawful is none = left_serial s o lawful is none
if_left_serial s (Err e) lawful is none = tt

pub if_left_threads : (s : Scenario) (r : Result Outcome NoMemory) → IsLawfulBoard s → IfOk r (IsThreadRun s) → IfOk r (IsLeft threads s)
if_left_threads s (Ok o) lawful is = left_threads s o lawful is
if_left_threads s (Err e) lawful is = tt

-- what is written of an outcome is the report of the journals that it tells
pub told-left : (mode : Mode) (s : Scenario) (o : Outcome) (js : List DomainJournal) → IsOutcome s o js → outcome_report mode s o ≡ report_left mode s js o.rings
told-left mode s o js told = rw (told.journals, told.channels, told.messages, told.places) (cc)

-- of what a run leaves it is a report
pub left-reported : (mode : Mode) (s : Scenario) (o : Outcome) → IsLawfulBoard s → IsLeft mode s o → IsReportOf mode s (outcome_report mode s o)
left-reported mode s o lawful is =
    let written = told-left mode s o is.journals is.told in
    record {
      journals = is.journals;
      left = is.left;
      sound = is.sound;
      rings = o.rings;
      rings_left = is.rings_left;
      written = written;
      checked = subst HasNoWrongLine (sym written) (left-checked mode s is.journals o.rings lawful is.sound is.rings_left);
    }

-- the rings that it shows are there
pub left-rings : (mode : Mode) (s : Scenario) (o : Outcome) → IsLeft mode s o → HasRingsFor mode s.links o.rings
left-rings serial s o is = tt
left-rings threads s o is = told-of-links s is.journals s.links o.rings is.rings_left.0

-- it has a journal for each domain
pub journals-each : (mode : Mode) (s : Scenario) (o : Outcome) → IsLeft mode s o → length o.journals ≡ length s.domains
journals-each mode s o is =
    let told = ap length is.told.journals in
    let each = ap length is.sound.board_run.each_domain in
    let counted = length-map o.journals (λ (j : Written). j.lines) in
    let runs = length-map is.journals lines_of in
    let lines = length-map is.journals (λ (j : DomainJournal). j.line) in
    omega (arith, told, each, counted, runs, lines, rising-length s)

-- of the scenario that a text tells
pub reported_of : (mode : Mode) (text output : List ℕ) (s : Scenario) → IsScenario text s → IsReportOf mode s output → IsReport mode text output
reported_of mode text output s read is = record { scenario = s; read = read; journals = is.journals; left = is.left; sound = is.sound; rings = is.rings; rings_left = is.rings_left; written = is.written; checked = is.checked }
