-- Journals of a report in which the first two passes find no wrong line.
-- Source: docs/FORMATS.md, "How a report is checked".
use Rattle.std.specs.Prelude.{◌≡◌, List, None}
use Rattle.std.specs.List.{AllByRecursion}
use Rattle.board_model.specs.declared.scenario.Scenario.{Scenario}
use Rattle.report_text.specs.JournalRead.{JournalText}
use Rattle.report_text.specs.StepPass.{wrong_step}
use Rattle.report_check.specs.Walked.{IsInOrder}

pub record HasRightSteps (s : Scenario) (j : JournalText) : Type 0 where
  pub order : IsInOrder s j
  pub steps : wrong_step s j ≡ None

abbrev pub HaveRightSteps : Scenario → List JournalText → Type 0
HaveRightSteps s js = AllByRecursion (HasRightSteps s) js
