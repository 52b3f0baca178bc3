use Rattle.std.proofs.Common.{◌≡◌, ℕ, suc, ◌-◌, Option, refl, sym, ap, ◌∙◌, arith}
use Rattle.std.specs.Prelude.{option_and_then}
use Rattle.buffer_book.specs.declared.cell.State.TheVariants as state
use Rattle.buffer_book.specs.Runs.{Head, columns_of, with_head, shortened, state_head}
use Rattle.buffer_book.proofs.CellWrites.{written-head, head-ended, head-shorter, head-read, head-within}
use Rattle.buffer_book.proofs.cell.shorten.Goals as goal

pub returns-then-cell-eq0 : goal.returns-then-cell-eq0
returns-then-cell-eq0 c =
    let cs = c.args.cells.now.items in
    let x = c.index_mut-cell.result.now in
    let is = c.index_mut-cell.ensures.value in
    let read = head-read cs c.args.name x (head-within cs c.args.name c.requires) is in
    written-head cs c.args.name x (record x { state = state.Free }) is refl refl
    ∙ ap (with_head (columns_of cs) c.args.name) (head-ended x.state x.first x.last x.more c.args.next (omega arith) ∙ ap (λ (o : Option Head). option_and_then (shortened c.args.next) o) (sym read))

pub returns-else-cell-eq0 : goal.returns-else-cell-eq0
returns-else-cell-eq0 c =
    let cs = c.args.cells.now.items in
    let x = c.index_mut-cell.result.now in
    let is = c.index_mut-cell.ensures.value in
    let read = head-read cs c.args.name x (head-within cs c.args.name c.requires) is in
    let more : suc (x.more - 1) ≡ x.more = omega arith in
    written-head cs c.args.name x (record x { first = c.args.next; more = x.more - 1 }) is refl refl
    ∙ ap (with_head (columns_of cs) c.args.name) (head-shorter x.state x.first x.last (x.more - 1) c.args.next
    ∙ ap (λ (m : ℕ). option_and_then (shortened c.args.next) (state_head x.state x.first x.last m)) more
    ∙ ap (λ (o : Option Head). option_and_then (shortened c.args.next) o) (sym read))
