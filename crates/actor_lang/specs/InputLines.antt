-- The lines of an input text, and the words of a line.
-- Source: docs/FORMATS.md, "Text of a relay" and "Text of numbered calls". A newline ends a line, and the last line may lack it. No byte is
-- dropped. One space stands between two words.
use Rattle.std.specs.Prelude.{ℕ, Bool, not, ◌&&◌, List, [], ◌∷◌, length, nat_le, Option, None, Some, if◌then◌else◌}
use Rattle.std.specs.List.{list_all}
use Rattle.board_model.specs.FileLines.{parts_at}
use Rattle.board_model.specs.LineReasons.{is_empty}

-- the lines of the parts between newlines: the last part is no line where it has no byte
abbrev pub ended : List (List ℕ) → List (List ℕ)
ended [] = []
ended (last ∷ []) = if is_empty last then [] else last ∷ []
ended (part ∷ next ∷ parts) = part ∷ ended (next ∷ parts)

-- 10 is the newline
abbrev pub input_lines : List ℕ → List (List ℕ)
input_lines text = ended (parts_at 10 text)

abbrev pub is_word : List ℕ → Bool
is_word bytes = not (is_empty bytes)

-- the most words of a line
abbrev pub word_limit : ℕ
word_limit = 6

-- what stands between the spaces of a line, each with at least one byte: 32 is the space
abbrev pub words_in : List ℕ → Option (List (List ℕ))
words_in line =
    if list_all is_word (parts_at 32 line) && nat_le (length (parts_at 32 line)) word_limit then Some (parts_at 32 line) else None
