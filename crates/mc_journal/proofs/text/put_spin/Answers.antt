use Rattle.std.proofs.Common.{append_assoc}
use Rattle.outer_io.proofs.Writing.{puts_then}
use Rattle.mc_journal.proofs.text.put_spin.Goals as goal

pub returns : goal.returns
returns g c =
    let word = rw c.refusal_word.ensures at c.put-2.ensures in
    simp append_assoc (puts_then _ _ _ _ _ _ c.put_head.ensures (puts_then _ _ _ _ _ _ c.put_number.ensures (puts_then _ _ _ _ _ _ c.put.ensures (puts_then _ _ _ _ _ _ word c.put-3.ensures))))
