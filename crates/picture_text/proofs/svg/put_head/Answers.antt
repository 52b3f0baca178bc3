use Rattle.outer_io.proofs.Writing.{puts_then}
use Rattle.picture_text.specs.Markup.{head}
use Rattle.picture_text.proofs.svg.put_head.Goals as goal

pub returns : goal.returns
unfolding head
returns g c =
    puts_then _ _ _ _ _ _ c.put.ensures (puts_then _ _ _ _ _ _ c.put_number.ensures (puts_then _ _ _ _ _ _ c.put-2.ensures
    (puts_then _ _ _ _ _ _ c.put_number-2.ensures (puts_then _ _ _ _ _ _ c.put-3.ensures (puts_then _ _ _ _ _ _ c.put_number-3.ensures
    (puts_then _ _ _ _ _ _ c.put-4.ensures (puts_then _ _ _ _ _ _ c.put_number-4.ensures c.put-5.ensures)))))))
