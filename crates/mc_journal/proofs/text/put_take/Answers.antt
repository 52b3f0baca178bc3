use Rattle.std.proofs.Common.{append_assoc}
use Rattle.outer_io.proofs.Writing.{puts_then}
use Rattle.mc_journal.proofs.text.put_take.Goals as goal

pub returns : goal.returns
returns g c =
    let word = rw c.fate_word.ensures at c.put-3.ensures in
    simp append_assoc (puts_then _ _ _ _ _ _ c.put_head.ensures (puts_then _ _ _ _ _ _ c.put_number.ensures (puts_then _ _ _ _ _ _ c.put.ensures (puts_then _ _ _ _ _ _ c.put_hex.ensures (puts_then _ _ _ _ _ _ c.put-2.ensures (puts_then _ _ _ _ _ _ word c.put-4.ensures))))))
