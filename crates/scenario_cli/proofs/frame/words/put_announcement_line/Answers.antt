use Rattle.outer_io.proofs.Writing.{puts_then}
use Rattle.scenario_cli.proofs.FrameLines.{announcement_line}
use Rattle.scenario_cli.proofs.frame.words.put_announcement_line.Goals as goal

pub returns : goal.returns
returns g c =
    rw announcement_line (puts_then _ _ _ _ _ _ c.put_addresses.ensures (puts_then _ _ _ _ _ _ c.put_announcement.ensures c.put.ensures))
