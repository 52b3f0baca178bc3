use Rattle.outer_io.proofs.Writing.{puts_then}
use Rattle.scenario_cli.proofs.FrameLines.{saying_line}
use Rattle.scenario_cli.proofs.frame.words.put_letter_line.Goals as goal

pub returns : goal.returns
returns g c =
    rw saying_line (puts_then _ _ _ _ _ _ c.put_addresses.ensures (puts_then _ _ _ _ _ _ c.put_letter.ensures c.put.ensures))
