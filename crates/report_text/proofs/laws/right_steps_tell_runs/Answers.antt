use Rattle.report_text.proofs.RightReports.{right_steps}
use Rattle.report_text.proofs.laws.right_steps_tell_runs.Goals as goal

pub returns : goal.returns
returns c = right_steps
