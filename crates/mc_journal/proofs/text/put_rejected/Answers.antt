use Rattle.outer_io.proofs.Writing.{puts_then}
use Rattle.mc_journal.proofs.text.put_rejected.Goals as goal

pub returns : goal.returns
returns g c =
    let word = rw c.reason_word.ensures at c.put-2.ensures in
    puts_then _ _ _ _ _ _ c.put.ensures word
