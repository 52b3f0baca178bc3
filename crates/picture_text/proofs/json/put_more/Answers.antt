use Rattle.outer_io.proofs.Writing.{puts_then}
use Rattle.picture_text.specs.Objects.{more_member}
use Rattle.picture_text.proofs.json.put_more.Goals as goal

pub returns : goal.returns
unfolding more_member
returns g c = puts_then _ _ _ _ _ _ c.put.ensures c.put_member.ensures
