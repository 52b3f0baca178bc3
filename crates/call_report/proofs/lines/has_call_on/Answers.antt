use Rattle.std.proofs.Common.{◌≡◌, ◌==◌, Some, slice_get, eq-eqb, sym, ◌∙◌}
use Rattle.std.proofs.lemmas.Bool.{ne_eqb}
use Rattle.call_service.specs.declared.carried.Carried.{Carried}
use Rattle.call_report.proofs.ListLemmas.{any_at, none_more}
use Rattle.call_report.proofs.lines.has_call_on.Goals as goal

pub returns-then-unwrap-cell : goal.returns-then-unwrap-cell
returns-then-unwrap-cell c =
    let h = c.args.service.now.history in
    let here : slice_get h c.loop-at.at ≡ Some c.unwrap.result = sym c.entry.ensures ∙ c.unwrap.ensures in
    sym (any_at (λ (e : Carried). e.cell == c.args.cell) h c.loop-at.at c.unwrap.result here (eq-eqb c.unwrap.result.cell c.args.cell c.if-unwrap-cell.true))

pub loop-at-preserved : goal.loop-at-preserved
loop-at-preserved c =
    let h = c.args.service.now.history in
    let here : slice_get h c.loop-at.at ≡ Some c.unwrap.result = sym c.entry.ensures ∙ c.unwrap.ensures in
    none_more (λ (e : Carried). e.cell == c.args.cell) h c.loop-at.at c.unwrap.result here c.loop-at.invariant (ne_eqb c.unwrap.result.cell c.args.cell c.if-unwrap-cell.false)
