use Rattle.outer_io.proofs.Writing.{puts_then}
use Rattle.scenario_cli.proofs.frame.words.put_part.Goals as goal

pub returns : goal.returns
returns g c =
    puts_then _ _ _ _ _ _ c.put.ensures (puts_then _ _ _ _ _ _ c.put_number.ensures (puts_then _ _ _ _ _ _ c.put-2.ensures (puts_then _ _ _ _ _ _ c.put_number-2.ensures c.put_bytes.ensures)))
