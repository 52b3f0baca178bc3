use Rattle.report_text.proofs.RightReports.{right_reports}
use Rattle.report_text.proofs.laws.right_reports_tell_runs.Goals as goal

pub returns : goal.returns
returns c = right_reports
