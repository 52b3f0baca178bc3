use Rattle.mc_journal.proofs.AnswerText.{spaced-brought}
use Rattle.outer_io.proofs.Writing.{puts_then}
use Rattle.mc_journal.proofs.text.put_brought.Goals as goal

pub returns : goal.returns
returns g c =
    let word = rw c.cut_word.ensures at c.put.ensures in
    rw spaced-brought (puts_then _ _ _ _ _ _ word c.put_sized.ensures)
