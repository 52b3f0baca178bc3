use Rattle.outer_io.proofs.Writing.{puts_then}
use Rattle.view_expect.specs.Outcomes.{plan}
use Rattle.view_expect.proofs.tap.put_plan.Goals as goal

pub returns : goal.returns
unfolding plan
returns g c = puts_then _ _ _ _ _ _ c.put.ensures (puts_then _ _ _ _ _ _ c.put_number.ensures c.put-2.ensures)
