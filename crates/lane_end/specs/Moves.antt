-- Moves that lead from one state of an end to another.
-- Source: docs/PROFILE.md, "Lanes".
use Rattle.std.specs.Prelude.{◌≡◌, List, [], ◌∷◌}

-- the moves are made one after the other, the oldest first: each may be made where those before it lead, and all of
-- them lead to the new state
abbrev pub Lead : {End Move : Type 0} → (End → Move → Type 0) → (End → Move → End) → End → List Move → End → Type 0
Lead May after old [] new = new ≡ old
Lead May after old (move ∷ moves) new = May old move × Lead May after (after old move) moves new
