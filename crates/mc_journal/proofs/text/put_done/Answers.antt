use Rattle.mc_journal.proofs.AnswerText.{spaced-completes}
use Rattle.outer_io.proofs.Writing.{puts_then}
use Rattle.mc_journal.proofs.text.put_done.Goals as goal

pub returns : goal.returns
returns g c = rw spaced-completes (puts_then _ _ _ _ _ _ c.put.ensures (puts_then _ _ _ _ _ _ c.put_place.ensures c.put_result.ensures))
