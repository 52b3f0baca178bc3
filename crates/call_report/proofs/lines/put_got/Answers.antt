use Rattle.std.proofs.Common.{append_assoc}
use Rattle.outer_io.proofs.Writing.{puts_then}
use Rattle.call_report.proofs.lines.put_got.Goals as goal

pub returns : goal.returns
returns g c =
    let word = rw c.outcome_word.ensures at c.put-4.ensures in
    simp append_assoc (puts_then _ _ _ _ _ _ c.put.ensures (puts_then _ _ _ _ _ _ c.put_number.ensures (puts_then _ _ _ _ _ _ c.put-2.ensures (puts_then _ _ _ _ _ _ c.put_number-2.ensures (puts_then _ _ _ _ _ _ c.put-3.ensures (puts_then _ _ _ _ _ _ word (puts_then _ _ _ _ _ _ c.put-5.ensures (puts_then _ _ _ _ _ _ c.put_number-3.ensures c.put-6.ensures))))))))
