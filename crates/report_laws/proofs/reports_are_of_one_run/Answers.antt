use Rattle.report_laws.proofs.RunsRight.{one_run}
use Rattle.report_laws.proofs.reports_are_of_one_run.Goals as goal

pub returns : goal.returns
returns c = one_run
