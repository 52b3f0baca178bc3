use Rattle.outer_io.proofs.Writing.{puts_then}
use Rattle.picture_text.specs.Objects.{member_text}
use Rattle.picture_text.proofs.json.put_member.Goals as goal

pub returns : goal.returns
unfolding member_text
returns g c =
    let name = rw c.name_word.ensures at c.put-2.ensures in
    puts_then _ _ _ _ _ _ c.put.ensures (puts_then _ _ _ _ _ _ name (puts_then _ _ _ _ _ _ c.put-3.ensures c.put_value.ensures))
