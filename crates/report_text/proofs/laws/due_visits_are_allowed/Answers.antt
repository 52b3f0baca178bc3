use Rattle.report_text.proofs.VisitsDue.{due_is_allowed}
use Rattle.report_text.proofs.laws.due_visits_are_allowed.Goals as goal

pub returns : goal.returns
returns c = due_is_allowed
