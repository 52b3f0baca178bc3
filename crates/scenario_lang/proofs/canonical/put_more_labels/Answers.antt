use Rattle.outer_io.proofs.Writing.{puts_nothing, puts_item}
use Rattle.scenario_lang.specs.CallFronts.{comma_then}
use Rattle.scenario_lang.proofs.canonical.put_more_labels.Goals as goal

pub loop-label-init : goal.loop-label-init
loop-label-init g c = puts_nothing g.K.Sink c.args.out.now

pub loop-label-preserved : goal.loop-label-preserved
loop-label-preserved g c =
    puts_item g.K.Sink _ _ _ comma_then c.args.labels.now c.loop-label.label-index c.label-item.result c.label-item.result c.loop-label-test.true c.label-item.is c.loop-label.invariant c.put_comma_and.ensures
