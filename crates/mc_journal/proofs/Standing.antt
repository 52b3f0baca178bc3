-- What stands at a place of a journal.
use Rattle.std.proofs.Common.{◌≡◌, ℕ, zero, suc, ◌<◌, List, [], ◌∷◌, length, get_or, arith, Some}
use Rattle.std.specs.Prelude.{slice_get}
use Rattle.board_model.specs.Journal.{Line}

pub standing_at : (lines : List Line) (i : ℕ) (x : Line) → Some x ≡ slice_get lines i → (i < length lines) × (get_or lines i x ≡ x)
standing_at [] i x e = absurd cc
standing_at (l ∷ ls) zero x e = (omega arith, cc)
standing_at (l ∷ ls) (suc i) x e = let r = standing_at ls i x e in (omega arith, r.1)
