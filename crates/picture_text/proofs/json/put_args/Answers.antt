use Rattle.outer_io.proofs.Writing.{puts_then}
use Rattle.picture_text.specs.Objects.{args_text}
use Rattle.picture_text.proofs.json.put_args.Goals as goal

pub returns-in-Some : goal.returns-in-Some
unfolding args_text
returns-in-Some g c = rw c.in-Some.is (puts_then _ _ _ _ _ _ c.put.ensures (puts_then _ _ _ _ _ _ c.put_number.ensures c.put_all_more.ensures))

pub returns-in-None : goal.returns-in-None
unfolding args_text
returns-in-None g c = rw c.in-None.is c.put_members.ensures
