use Rattle.std.proofs.Common.{◌≡◌, ℕ, zero, suc, ◌∷◌, [], refl}
use Rattle.message_queue.specs.Linked.{at}
use Rattle.message_queue.proofs.FreshCells.{fresh}
use Rattle.message_queue.proofs.cells.Cells.new.Goals as goal

no_first : (p : ℕ) → at (0 ∷ 0 ∷ 0 ∷ 0 ∷ []) p ≡ 0
no_first zero = refl
no_first (suc zero) = refl
no_first (suc (suc zero)) = refl
no_first (suc (suc (suc zero))) = refl
no_first (suc (suc (suc (suc p)))) = refl

pub returns-clause-sound : goal.returns-clause-sound
returns-clause-sound c =
    let made = c.in_ok-free_cells.ensures in
    fresh (record { cells = c.in_ok-free_cells.field-0; first = 0 ∷ 0 ∷ 0 ∷ 0 ∷ []; last = 0 ∷ 0 ∷ 0 ∷ 0 ∷ []; free = c.args.slots; len = 0 }) c.args.slots made.length c.ranges.slots.fits made.ring made.next no_first refl refl
