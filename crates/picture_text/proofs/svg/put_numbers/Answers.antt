use Rattle.std.proofs.Common.{refl}
use Rattle.outer_io.proofs.Writing.{puts_nothing, puts_item}
use Rattle.picture_text.specs.Markup.{attribute}
use Rattle.picture_text.proofs.svg.put_numbers.Goals as goal

pub loop-number-init : goal.loop-number-init
loop-number-init g c = puts_nothing g.K.Sink c.args.out.now

pub loop-number-preserved : goal.loop-number-preserved
loop-number-preserved g c =
    puts_item g.K.Sink _ _ _ attribute c.args.numbers.now c.loop-number.number-index _ _ c.loop-number-test.true refl c.loop-number.invariant c.put_number.ensures
