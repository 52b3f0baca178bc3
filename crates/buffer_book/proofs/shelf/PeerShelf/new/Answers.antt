use Rattle.std.proofs.Common.{◌∙◌, List, Option, ap}
use Rattle.buffer_book.specs.declared.cell.Resting.{Resting}
use Rattle.buffer_book.specs.Runs.{Columns, empty_columns, shelf_of_columns}
use Rattle.buffer_book.proofs.Items.{sound-empty}
use Rattle.buffer_book.proofs.ShelfItems.{shelf-empty}
use Rattle.buffer_book.proofs.shelf.PeerShelf.new.Goals as goal

pub invariant_of-result : goal.invariant_of-result
invariant_of-result c = rw (c.in_ok-free_cells.ensures, c.in_ok-none_aside.ensures) (sound-empty c.args.size c.ranges.size.fits)

pub returns : goal.returns
returns c =
    ap (λ (k : Columns). shelf_of_columns c.args.peer k c.in_ok-none_aside.field-0.items) c.in_ok-free_cells.ensures
    ∙ ap (λ (rs : List (Option Resting)). shelf_of_columns c.args.peer (empty_columns c.args.size) rs) c.in_ok-none_aside.ensures
    ∙ shelf-empty c.args.peer c.args.size
