use Rattle.outer_io.proofs.Writing.{puts_then}
use Rattle.view_expect.specs.Outcomes.{tap_text}
use Rattle.view_expect.proofs.tap.put_all.Goals as goal

pub returns : goal.returns
unfolding tap_text
returns g c = puts_then _ _ _ _ _ _ c.put_plan.ensures c.put_outcomes.ensures
