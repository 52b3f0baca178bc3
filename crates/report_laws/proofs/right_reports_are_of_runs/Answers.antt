use Rattle.report_laws.proofs.RightReportsRun.{right_run}
use Rattle.report_laws.proofs.right_reports_are_of_runs.Goals as goal

pub returns : goal.returns
returns c = right_run
