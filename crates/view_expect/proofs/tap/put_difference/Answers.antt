use Rattle.outer_io.proofs.Writing.{puts_then}
use Rattle.view_expect.specs.Outcomes.{difference}
use Rattle.view_expect.proofs.tap.put_difference.Goals as goal

pub returns : goal.returns
unfolding difference
returns g c =
    puts_then _ _ _ _ _ _ c.put.ensures (puts_then _ _ _ _ _ _ c.put-2.ensures (puts_then _ _ _ _ _ _ c.put-3.ensures
    (puts_then _ _ _ _ _ _ c.put-4.ensures c.put-5.ensures)))
