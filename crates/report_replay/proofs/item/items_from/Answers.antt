use Rattle.std.proofs.Common.{ap, arith}
use Rattle.std.proofs.lemmas.List.{drop_all}
use Rattle.std.specs.Prelude.{sum_by}
use Rattle.report_replay.proofs.Counted.{item_weight, items-weighed}
use Rattle.report_replay.proofs.item.items_from.Goals as goal

pub returns : goal.returns
returns c =
    let none = ap (sum_by (item_weight c.args.peer)) (drop_all c.loop-item.item-index c.args.items.now c.loop-item-test.false) in
    omega (arith, none, items-weighed c.args.peer c.args.items.now, c.loop-item.invariant.all, c.loop-item.invariant.small)
