use Rattle.std.proofs.Common.{rules}
use Rattle.report_totals.specs.SmallRuns.{HoldsFew}
use Rattle.report_totals.proofs.HeldUnnamed.{few-named, held-unnamed-are}
use Rattle.report_totals.proofs.held.held_by.Goals as goal

pub returns : goal.returns
returns c = λ few. held-unnamed-are c.args.state.now _ (let here : HoldsFew c.args.state.now = few-named c.args.state.now few in search rules)
