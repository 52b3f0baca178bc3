-- Fronts of a text: what stands before the first byte of a kind, and what follows.
-- Source: docs/FORMATS.md, "Scenario files": lines, words, and the parts of a word.
use Rattle.std.specs.Prelude.{◌≡◌, ℕ, ◌&&◌, List, [], ◌∷◌, ◌==◌, Option, None, Some, if◌then◌else◌}
use Rattle.std.specs.Borrow.{Bor}
use Rattle.board_model.specs.FileLines.{parts_at}
use Rattle.board_model.specs.LineReasons.{is_empty}

-- a line without the carriage return at its end
abbrev pub unreturned : List ℕ → List ℕ
unreturned [] = []
unreturned (b ∷ bs) = if b == 13 && is_empty bs then [] else b ∷ unreturned bs

-- a word is cut at its first separator, or has none
abbrev pub Cuts : ℕ → List ℕ → Option (Bor (List ℕ) × Bor (List ℕ)) → Type 0
Cuts c word None = parts_at c word ≡ word ∷ []
Cuts c word (Some cut) = parts_at c word ≡ cut.0.now ∷ parts_at c cut.1.now

abbrev pub two_parts : List (List ℕ) → Option (List ℕ × List ℕ)
two_parts (a ∷ b ∷ []) = Some (a, b)
two_parts parts = None

abbrev pub three_parts : List (List ℕ) → Option (List ℕ × List ℕ × List ℕ)
three_parts (a ∷ b ∷ c ∷ []) = Some (a, b, c)
three_parts parts = None
