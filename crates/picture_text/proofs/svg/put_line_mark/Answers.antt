use Rattle.outer_io.proofs.Writing.{puts_then, puts_nothing}
use Rattle.picture_text.specs.Markup.{line_mark}
use Rattle.picture_text.proofs.svg.put_line_mark.Goals as goal

pub returns-in-Some : goal.returns-in-Some
unfolding line_mark
returns-in-Some g c = rw c.in-Some.is (puts_then _ _ _ _ _ _ c.put.ensures (puts_then _ _ _ _ _ _ c.put_number.ensures c.put-in-Some.ensures))

pub returns-in_default : goal.returns-in_default
unfolding line_mark
returns-in_default g c = rw c.in_default.is (puts_nothing g.K.Sink c.args.out.now)
