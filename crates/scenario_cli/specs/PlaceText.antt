-- The line that says where an input is not what it is to be: a word, the place and the reason.
-- Source: docs/FORMATS.md, "Statuses".
use Rattle.std.specs.Prelude.{ℕ, List, [], ◌∷◌, decimal}
use Rattle.board_model.specs.Grammar.{line_of}

abbrev pub place_line : List ℕ → ℕ → List ℕ → List ℕ
place_line word place reason = line_of (word ∷ decimal place ∷ reason ∷ [])
