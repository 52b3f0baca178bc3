-- The verdict on a report: right, or the first wrong line of the first pass that finds one, with its reason.
-- Source: docs/FORMATS.md, "Report". The passes: the text; the steps of each domain and the end of its script; the lanes between domains;
-- and the numbers, with the rings of a run on threads.
use Rattle.std.specs.Prelude.{ℕ, List, [], ◌∷◌, Option, None, Some, Result, Ok, Err}
use Rattle.board_model.specs.declared.scenario.Scenario.{Scenario}
use Rattle.board_model.specs.Scenario.{rising}
use Rattle.board_model.specs.Report.{Mode}
use Rattle.report_text.specs.declared.verdict.CheckReason.{CheckReason}
use Rattle.report_text.specs.declared.verdict.CheckReason.TheVariants as of
use Rattle.report_text.specs.declared.verdict.Verdict.{Verdict}
use Rattle.report_text.specs.declared.verdict.Verdict.TheVariants.{Right, Wrong}
use Rattle.report_text.specs.ScenarioPart.{Rest, Told}
use Rattle.report_text.specs.TextPass.{told_by_text}
use Rattle.report_text.specs.JournalRead.{JournalText, journals_at, behind_journals}
use Rattle.report_text.specs.StepPass.{wrong_step, unfinished}
use Rattle.report_text.specs.LinkPass.{wrong_among}
use Rattle.report_text.specs.TotalPass.{wrong_total}

-- wrong for this reason, or the next verdict
abbrev pub wrong_or : CheckReason → Option ℕ → Verdict → Verdict
wrong_or reason None next = next
wrong_or reason (Some line) next = Wrong line reason

-- the journals one after the other, each by its steps and then by its end
abbrev pub by_steps : Scenario → List JournalText → Verdict → Verdict
by_steps s [] next = next
by_steps s (j ∷ js) next = wrong_or of.Step (wrong_step s j) (wrong_or of.Script (unfinished s j) (by_steps s js next))

abbrev pub by_journals : Mode → Scenario → List JournalText → Rest → Verdict
by_journals mode s js numbers = by_steps s js (wrong_or of.Link (wrong_among s js js) (wrong_or of.Total (wrong_total mode s js numbers) Right))

abbrev pub by_told : Result Told ℕ → Verdict
by_told (Err line) = Wrong line of.Text
by_told (Ok t) = by_journals t.mode t.scenario (journals_at (rising t.scenario) t.behind) (behind_journals (rising t.scenario) t.behind)

-- the verdict on a text
abbrev pub verdict_on : List ℕ → Verdict
verdict_on text = by_told (told_by_text text)
