use Rattle.std.proofs.Common.{refl}
use Rattle.outer_io.proofs.Writing.{puts_item, puts_nothing}
use Rattle.call_report.specs.CallsText.{got_line}
use Rattle.call_report.proofs.lines.put_gots.Goals as goal

pub loop-got-init : goal.loop-got-init
loop-got-init g c = puts_nothing g.K.Sink c.args.out.now

pub loop-got-preserved : goal.loop-got-preserved
loop-got-preserved g c = puts_item g.K.Sink _ _ _ (got_line c.args.client) c.args.gots.now c.loop-got.got-index _ _ c.loop-got-test.true refl c.loop-got.invariant c.put_got.ensures
