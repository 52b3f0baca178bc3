use Rattle.outer_io.proofs.Writing.{puts_then}
use Rattle.mc_journal.proofs.text.put_ok_number.Goals as goal

pub returns : goal.returns
returns g c =
    puts_then _ _ _ _ _ _ c.put.ensures c.put_number.ensures
