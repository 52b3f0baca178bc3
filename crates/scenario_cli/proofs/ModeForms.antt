-- The forms of the two modes of a run, whose tables are the same but for the mode.
use Rattle.std.proofs.Common.{◌≡◌, ℕ, List, Err, refl}
use Rattle.board_model.specs.declared.scenario.Scenario.{Scenario}
use Rattle.board_model.specs.Language.{RefusedLine, refused, told_by}
use Rattle.board_model.specs.Report.{Mode, serial, threads}
use Rattle.scenario_lang.specs.declared.fault.ScenarioFault.{ScenarioFault}
use Rattle.scenario_lang.specs.declared.fault.ScenarioFault.TheVariants as scenario_fault
use Rattle.scenario_lang.specs.Refused.{IfRefused}
use Rattle.scenario_cli.specs.Words.{run_in}
use Rattle.scenario_cli.specs.Due.{IsScenario, IsRefused, IsFaultOf, IsReport}
use Rattle.scenario_cli.specs.Answers.{good, bad, status_for, IsOfSort, IsRefusal, IsAnswer}
use Rattle.scenario_cli.proofs.Inputs.{not_both}

pub refused-status : (mode : Mode) → status_for (run_in mode) bad ≡ 3
refused-status serial = refl
refused-status threads = refl

pub as-report : (mode : Mode) (text output : List ℕ) → IsReport mode text output → IsAnswer (run_in mode) good text output
as-report serial text output is = is
as-report threads text output is = is

pub report-of : (mode : Mode) (text output : List ℕ) → IsAnswer (run_in mode) good text output → IsReport mode text output
report-of serial text output is = is
report-of threads text output is = is

pub as-refusal : (mode : Mode) (text output : List ℕ) → IsRefusal text output → IsAnswer (run_in mode) bad text output
as-refusal serial text output is = is
as-refusal threads text output is = is

-- a text is a scenario or none, and not both
pub no-refusal : (mode : Mode) (text : List ℕ) (s : Scenario) → IsScenario text s → IsOfSort (run_in mode) bad text → ⊥
no-refusal serial text s is of = not_both (told_by text) s of.0 is of.1
no-refusal threads text s is of = not_both (told_by text) s of.0 is of.1

pub no-scenario : (mode : Mode) (text : List ℕ) (l : RefusedLine) → IsRefused text l → IsOfSort (run_in mode) good text → ⊥
no-scenario serial text l is of = not_both (told_by text) of.0 l of.1 is
no-scenario threads text l is of = not_both (told_by text) of.0 l of.1 is

-- what a fault of reading says of the text
pub fault-of : (text : List ℕ) (fault : ScenarioFault) → IfRefused {X = Scenario} (Err fault) (λ line reason. told_by text ≡ Err (refused line reason)) → IsFaultOf text fault
fault-of text (scenario_fault.Refused line reason) is = is
fault-of text scenario_fault.NoMemory is = tt
