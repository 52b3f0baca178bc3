use Rattle.std.proofs.Common.{refl}
use Rattle.outer_io.proofs.Writing.{puts_nothing, puts_item}
use Rattle.view_expect.specs.Outcomes.{outcome_text}
use Rattle.view_expect.proofs.tap.put_outcomes.Goals as goal

pub loop-outcome-init : goal.loop-outcome-init
loop-outcome-init g c = puts_nothing g.K.Sink c.args.out.now

pub loop-outcome-preserved : goal.loop-outcome-preserved
loop-outcome-preserved g c =
    puts_item g.K.Sink _ _ _ outcome_text c.args.outcomes.now c.loop-outcome.outcome-index _ _ c.loop-outcome-test.true refl c.loop-outcome.invariant c.put_outcome.ensures
