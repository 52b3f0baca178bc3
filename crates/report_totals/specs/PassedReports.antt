-- Reports in which the first three passes found no wrong line.
-- Source: docs/FORMATS.md, "How a report is checked".
use Rattle.std.specs.Prelude.{◌≡◌, ℕ, ◌-◌, ◌<◌, ◌^◌, List, length, Ok}
use Rattle.report_text.specs.RightRuns.{PassesThree}
use Rattle.report_text.specs.ScenarioPart.{Told}
use Rattle.report_text.specs.TextPass.{told_by_text}
use Rattle.report_text.specs.Verdicts.{verdict_on}

-- the text of such a report tells this
pub record IsPassed (t : Told) : Type 0 where
  pub report : List ℕ
  pub short : length report < 2 ^ 32 - 1
  pub told : told_by_text report ≡ Ok t
  pub passes : PassesThree (verdict_on report)
