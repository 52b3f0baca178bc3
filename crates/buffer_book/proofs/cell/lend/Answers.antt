use Rattle.std.proofs.Common.{Option, refl, sym, subst, ap, ◌∙◌}
use Rattle.std.specs.Prelude.{IsSome, option_map}
use Rattle.buffer_book.specs.declared.cell.State.TheVariants as state
use Rattle.buffer_book.specs.Runs.{Head, columns_of, with_head, lent_head}
use Rattle.buffer_book.proofs.CellWrites.{written-head, head-lent, head-read, head-within}
use Rattle.buffer_book.proofs.cell.lend.Goals as goal

pub returns : goal.returns
returns c =
    let cs = c.args.cells.now.items in
    let x = c.index_mut.result.now in
    let is = c.index_mut.ensures.value in
    let read = head-read cs c.args.name x (head-within cs c.args.name c.requires) is in
    written-head cs c.args.name x (record x { state = state.Lent c.args.serial }) is refl refl
    ∙ ap (with_head (columns_of cs) c.args.name) (head-lent x.state x.first x.last x.more c.args.serial (subst (λ (o : Option Head). IsSome o) read c.requires) ∙ ap (λ (o : Option Head). option_map (lent_head c.args.serial) o) (sym read))
