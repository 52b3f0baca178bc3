use Rattle.std.proofs.Common.{◌≡◌, ℕ, Option, Some, None, sym, refl}
use Rattle.std.specs.Prelude.{IfSome, find}
use Rattle.board_model.specs.Choice.{best, without_best}
use Rattle.message_queue.specs.declared.cells.Cells.{Cells}
use Rattle.message_queue.specs.Linked.{is_place, without_place}
use Rattle.message_queue.specs.Cells.{columns_of, order_of, spare_of, held_in, waiting_at, waiting_in, IsSound, IsFirst}
use Rattle.message_queue.proofs.Choosing.{best-none_both, best-first, best-is, best-rest}
use Rattle.message_queue.proofs.cells.Cells.best.Goals as goal

first_of : (q : Cells) (r : Option ℕ) → IsSound q → r ≡ find is_place q.first → IfSome r (λ o. IsFirst q o)
first_of q None sound is = tt
first_of q (Some o) sound is = best-first (columns_of q.cells.items) q.first q.last (order_of q) (spare_of q) sound.are_linked q o refl refl (sym is)

best_of : (q : Cells) (r : Option ℕ) → IsSound q → r ≡ find is_place q.first → IfSome r (λ o. best (λ w. w.priority) (waiting_in q) ≡ Some (held_in q o))
best_of q None sound is = tt
best_of q (Some o) sound is = best-is (columns_of q.cells.items) q.first q.last (order_of q) (spare_of q) sound.are_linked o (sym is)

rest_of : (q : Cells) (r : Option ℕ) → IsSound q → r ≡ find is_place q.first → IfSome r (λ o. waiting_at q (without_place (order_of q) o) ≡ without_best (λ w. w.priority) (waiting_in q))
rest_of q None sound is = tt
rest_of q (Some o) sound is = best-rest (columns_of q.cells.items) q.first q.last (order_of q) (spare_of q) sound.are_linked o (sym is)

pub returns-clause-none : goal.returns-clause-none
returns-clause-none c =
    let q = c.args.self.now in
    best-none_both (columns_of q.cells.items) q.first q.last (order_of q) (spare_of q) c.requires.are_linked c.first_place.result c.first_place.ensures

pub returns-clause-first : goal.returns-clause-first
returns-clause-first c = first_of c.args.self.now c.first_place.result c.requires c.first_place.ensures

pub returns-clause-best : goal.returns-clause-best
returns-clause-best c = best_of c.args.self.now c.first_place.result c.requires c.first_place.ensures

pub returns-clause-rest : goal.returns-clause-rest
returns-clause-rest c = rest_of c.args.self.now c.first_place.result c.requires c.first_place.ensures
