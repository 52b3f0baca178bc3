use Rattle.outer_io.proofs.Writing.{puts_then}
use Rattle.view_cli.specs.RefusedCalls.{refused_line}
use Rattle.view_cli.proofs.refused.put_refused.Goals as goal

pub returns : goal.returns
unfolding refused_line
returns g c =
    puts_then _ _ _ _ _ _ c.put_number.ensures (puts_then _ _ _ _ _ _ c.put.ensures
    (puts_then _ _ _ _ _ _ c.put_number-2.ensures (puts_then _ _ _ _ _ _ c.put-2.ensures
    (puts_then _ _ _ _ _ _ c.put_number-3.ensures (puts_then _ _ _ _ _ _ c.put-3.ensures
    (puts_then _ _ _ _ _ _ c.put-4.ensures (puts_then _ _ _ _ _ _ c.put-5.ensures
    (puts_then _ _ _ _ _ _ c.put-6.ensures c.put-7.ensures))))))))
