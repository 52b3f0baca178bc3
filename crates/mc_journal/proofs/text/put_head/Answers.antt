use Rattle.outer_io.proofs.Writing.{puts_then}
use Rattle.mc_journal.proofs.text.put_head.Goals as goal

pub returns : goal.returns
returns g c =
    let word = rw c.form_word.ensures at c.put.ensures in
    puts_then _ _ _ _ _ _ word c.put-2.ensures
