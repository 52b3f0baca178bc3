use Rattle.std.proofs.Common.{append_assoc}
use Rattle.outer_io.proofs.Writing.{puts_then}
use Rattle.call_report.proofs.lines.put_heading.Goals as goal

pub returns : goal.returns
returns g c = simp append_assoc (puts_then _ _ _ _ _ _ c.put.ensures (puts_then _ _ _ _ _ _ c.put_number.ensures c.put-2.ensures))
