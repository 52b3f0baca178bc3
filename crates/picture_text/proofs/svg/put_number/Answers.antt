use Rattle.outer_io.proofs.Writing.{puts_then}
use Rattle.picture_text.specs.Markup.{attribute}
use Rattle.picture_text.proofs.svg.put_number.Goals as goal

pub returns : goal.returns
unfolding attribute
returns g c =
    let name = rw c.key_word.ensures at c.put-2.ensures in
    puts_then _ _ _ _ _ _ c.put.ensures (puts_then _ _ _ _ _ _ name (puts_then _ _ _ _ _ _ c.put-3.ensures
    (puts_then _ _ _ _ _ _ c.put_number.ensures c.put-4.ensures)))
