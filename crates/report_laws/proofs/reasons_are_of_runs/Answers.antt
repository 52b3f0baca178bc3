use Rattle.report_laws.proofs.ReasonsOfRuns.{reasons-of-runs}
use Rattle.report_laws.proofs.reasons_are_of_runs.Goals as goal

pub returns : goal.returns
returns c = reasons-of-runs
