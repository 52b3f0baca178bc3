use Rattle.report_laws.proofs.LinesFit.{lines_fit}
use Rattle.report_laws.proofs.runs_have_entry_lines.Goals as goal

pub returns : goal.returns
returns c = lines_fit
