-- The line of a channel, piece by piece.
use Rattle.std.proofs.Common.{◌≡◌, List, ℕ, [], ◌∷◌, ◌++◌, append_assoc}
use Rattle.std.specs.Prelude.{codes}

pub channel-line : (owner number words : List ℕ) → (codes "channel " ++ (owner ++ 32 ∷ (number ++ 32 ∷ words))) ++ 10 ∷ [] ≡ codes "channel " ++ (owner ++ (codes " " ++ (number ++ (codes " " ++ (words ++ 10 ∷ [])))))
channel-line owner number words = simp append_assoc
