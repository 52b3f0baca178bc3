use Rattle.outer_io.proofs.Writing.{puts_then}
use Rattle.mc_journal.proofs.AnswerText.{line_of-answer}
use Rattle.mc_journal.proofs.text.put_call.Goals as goal

pub returns : goal.returns
returns g c =
    rw line_of-answer (puts_then _ _ _ _ _ _ c.put_head.ensures (puts_then _ _ _ _ _ _ c.put_number.ensures (puts_then _ _ _ _ _ _ c.put.ensures (puts_then _ _ _ _ _ _ c.put_answer.ensures c.put-2.ensures))))
