use Rattle.std.proofs.Common.{◌-◌, Option, ap, arith}
use Rattle.std.specs.Prelude.{slice_set}
use Rattle.buffer_book.specs.declared.cell.Resting.{Resting}
use Rattle.buffer_book.specs.Runs.{resting_one}
use Rattle.buffer_book.proofs.CellWrites.{rested-ended, rested-shorter}
use Rattle.buffer_book.proofs.cell.shorten_aside.Goals as goal

pub returns-then-resting-eq0-clause-aside : goal.returns-then-resting-eq0-clause-aside
returns-then-resting-eq0-clause-aside c = ap (λ (o : Option Resting). slice_set c.args.aside.now.items c.args.place o) (rested-ended c.args.next c.args.resting c.args.resting.more (omega arith))

pub returns-then-resting-eq0-clause-count : goal.returns-then-resting-eq0-clause-count
returns-then-resting-eq0-clause-count c =
    let none = ap (λ (o : Option Resting). resting_one o) (rested-ended c.args.next c.args.resting c.args.resting.more (omega arith)) in
    omega (arith, none)

pub returns-else-resting-eq0-clause-aside : goal.returns-else-resting-eq0-clause-aside
returns-else-resting-eq0-clause-aside c = ap (λ (o : Option Resting). slice_set c.args.aside.now.items c.args.place o) (rested-shorter c.args.next c.args.resting c.args.resting.more (c.args.resting.more - 1) (omega arith))

pub returns-else-resting-eq0-clause-count : goal.returns-else-resting-eq0-clause-count
returns-else-resting-eq0-clause-count c =
    let one = ap (λ (o : Option Resting). resting_one o) (rested-shorter c.args.next c.args.resting c.args.resting.more (c.args.resting.more - 1) (omega arith)) in
    omega (arith, one)
