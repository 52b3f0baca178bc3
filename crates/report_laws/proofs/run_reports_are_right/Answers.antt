use Rattle.report_laws.proofs.RunsRight.{runs_right}
use Rattle.report_laws.proofs.run_reports_are_right.Goals as goal

pub returns : goal.returns
returns c = runs_right
