use Rattle.outer_io.proofs.Writing.{puts_then}
use Rattle.scenario_cli.proofs.frame.words.put_scalar.Goals as goal

pub returns : goal.returns
returns g c =
    let bits = rw c.bits_of.ensures at c.put_number-2.ensures in
    puts_then _ _ _ _ _ _ c.put.ensures (puts_then _ _ _ _ _ _ c.put_number.ensures (puts_then _ _ _ _ _ _ c.put-2.ensures (puts_then _ _ _ _ _ _ bits (puts_then _ _ _ _ _ _ c.put-3.ensures c.put_number-3.ensures))))
