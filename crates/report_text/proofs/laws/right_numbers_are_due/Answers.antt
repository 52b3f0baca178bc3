use Rattle.report_text.proofs.RightReports.{right_numbers}
use Rattle.report_text.proofs.laws.right_numbers_are_due.Goals as goal

pub returns : goal.returns
returns c = right_numbers
