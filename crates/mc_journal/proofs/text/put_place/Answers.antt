use Rattle.outer_io.proofs.Writing.{puts_then, puts_nothing}
use Rattle.mc_journal.proofs.text.put_place.Goals as goal

pub returns-in-Some : goal.returns-in-Some
returns-in-Some g c = rw c.in-Some.is (puts_then _ _ _ _ _ _ c.put_number.ensures c.put.ensures)

pub returns-in_default : goal.returns-in_default
returns-in_default g c = rw c.in_default.is (puts_nothing g.K.Sink c.args.out.now)
