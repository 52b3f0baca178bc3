use Rattle.std.proofs.Common.{Option, refl, sym, ap, ◌∙◌, ◌+◌}
use Rattle.std.specs.Prelude.{option_map}
use Rattle.buffer_book.specs.Runs.{Head, columns_of, with_head, joined_head}
use Rattle.buffer_book.proofs.CellWrites.{written-head, head-longer, head-read, head-within}
use Rattle.buffer_book.proofs.cell.lengthen.Goals as goal

pub returns : goal.returns
returns c =
    let cs = c.args.cells.now.items in
    let x = c.index_mut-cell.result.now in
    let is = c.index_mut-cell.ensures.value in
    written-head cs c.args.name x (record x { more = x.more + 1; last = c.args.last }) is refl refl
    ∙ ap (with_head (columns_of cs) c.args.name) (head-longer x.state x.first x.last x.more c.args.last ∙ ap (λ (o : Option Head). option_map (joined_head c.args.last) o) (sym (head-read cs c.args.name x (head-within cs c.args.name c.requires.item) is)))
