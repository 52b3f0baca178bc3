use Rattle.std.proofs.Common.{◌∙◌, sym, arith}
use Rattle.report_totals.proofs.LaneSizes.{sizes-fit}
use Rattle.report_totals.proofs.rings.lanes.size_between.Goals as goal

pub overflow_cast-result : goal.overflow_cast-result
overflow_cast-result c = let fits = sizes-fit c.args.scenario.now c.requires c.args.sender c.args.receiver c.in-Some.size (sym c.buffers_between.ensures ∙ c.in-Some.is) in omega (arith, fits)
