use Rattle.std.proofs.Common.{refl}
use Rattle.outer_io.proofs.Writing.{puts_nothing, puts_item}
use Rattle.view_cli.specs.RefusedCalls.{refused_line}
use Rattle.view_cli.proofs.refused.put_all.Goals as goal

pub loop-call-init : goal.loop-call-init
loop-call-init g c = puts_nothing g.K.Sink c.args.out.now

pub loop-call-preserved : goal.loop-call-preserved
loop-call-preserved g c =
    puts_item g.K.Sink _ _ _ refused_line c.args.calls.now c.loop-call.call-index _ _ c.loop-call-test.true refl c.loop-call.invariant c.put_refused.ensures
