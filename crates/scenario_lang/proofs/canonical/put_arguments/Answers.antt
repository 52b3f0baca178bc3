use Rattle.outer_io.proofs.Writing.{puts_nothing, puts_item}
use Rattle.scenario_lang.specs.CallFronts.{blank_then}
use Rattle.scenario_lang.proofs.canonical.put_arguments.Goals as goal

pub loop-argument-init : goal.loop-argument-init
loop-argument-init g c = puts_nothing g.K.Sink c.args.out.now

pub loop-argument-preserved : goal.loop-argument-preserved
loop-argument-preserved g c =
    puts_item g.K.Sink _ _ _ blank_then c.args.arguments.now c.loop-argument.argument-index c.argument-item.result c.argument-item.result c.loop-argument-test.true c.argument-item.is c.loop-argument.invariant c.put_argument.ensures
