use Rattle.std.proofs.Common.{append_assoc}
use Rattle.outer_io.proofs.Writing.{puts_then}
use Rattle.scenario_cli.proofs.place_line.put_place_line.Goals as goal

pub returns : goal.returns
returns g c =
    simp append_assoc (puts_then _ _ _ _ _ _ c.put.ensures (puts_then _ _ _ _ _ _ c.put-2.ensures (puts_then _ _ _ _ _ _ c.put_number.ensures (puts_then _ _ _ _ _ _ c.put-3.ensures (puts_then _ _ _ _ _ _ c.put-4.ensures c.put-5.ensures)))))
