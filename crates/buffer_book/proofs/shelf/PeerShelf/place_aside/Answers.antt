use Rattle.std.proofs.Common.{◌≡◌, ◌∙◌, List, Option, Some, ap, sym, arith}
use Rattle.std.specs.Prelude.{position, sum_by}
use Rattle.buffer_book.specs.declared.cell.Resting.{Resting}
use Rattle.buffer_book.specs.Book.{Shelf, place_aside}
use Rattle.buffer_book.specs.Runs.{columns_of, is_resting, resting_one}
use Rattle.buffer_book.proofs.Found.{position-none, position-aside}
use Rattle.buffer_book.proofs.shelf.PeerShelf.place_aside.Goals as goal

pub returns-then-self-eq0-clause-place : goal.returns-then-self-eq0-clause-place
returns-then-self-eq0-clause-place c =
    let counted = c.self.invariant.counted in
    let none : sum_by resting_one c.self.inside.aside.items ≡ 0 = omega arith in
    position-none (columns_of c.self.inside.cells.items).next c.args.name c.in_ok-serial.serial c.self.inside.aside.items none
    ∙ ap (λ (s : Shelf). place_aside s.aside c.args.name (Some c.in_ok-serial.serial)) c.self.view_is
    ∙ ap (place_aside c.args.self.now.aside c.args.name) (sym c.in_ok-serial.was)

pub returns-clause-place : goal.returns-clause-place
returns-clause-place c =
    c.position_aside.ensures.place
    ∙ ap (λ (rs : List (Option Resting)). position (is_resting c.args.name c.in_ok-serial.serial) rs) c.deref.ensures.value
    ∙ sym (position-aside (columns_of c.self.inside.cells.items).next c.args.name c.in_ok-serial.serial c.self.inside.aside.items)
    ∙ ap (λ (s : Shelf). place_aside s.aside c.args.name (Some c.in_ok-serial.serial)) c.self.view_is
    ∙ ap (place_aside c.args.self.now.aside c.args.name) (sym c.in_ok-serial.was)
