use Rattle.outer_io.proofs.Writing.{puts_then}
use Rattle.mc_journal.proofs.text.put_bytes.Goals as goal

pub returns : goal.returns
returns g c =
    let word = rw c.bytes_word.ensures at c.put.ensures in
    puts_then _ _ _ _ _ _ word (puts_then _ _ _ _ _ _ c.put-2.ensures c.put_sized.ensures)
