-- Bytes as hexadecimal text that is read: digits of either case, two a byte, with blanks anywhere.
-- Source: docs/FORMATS.md, "Text of a frame".
use Rattle.std.specs.Prelude.{ℕ, ◌+◌, ◌*◌, ◌%◌, Bool, not, ◌||◌, ◌==◌, List, [], ◌∷◌, length, position, filter_map, Option, Some, None, is_some, if◌then◌else◌}
use Rattle.board_model.specs.FileWords.{digit_value}

-- a space, a tab, a carriage return or a newline
abbrev pub is_blank : ℕ → Bool
is_blank b = b == 32 || (b == 9 || (b == 13 || b == 10))

-- the values of the digits of a text
abbrev pub values_in : List ℕ → List ℕ
values_in text = filter_map digit_value text

-- two digits a byte, the high one first
abbrev pub bytes_of_values : List ℕ → List ℕ
bytes_of_values [] = []
bytes_of_values (high ∷ []) = []
bytes_of_values (high ∷ low ∷ values) = (16 * high + low) ∷ bytes_of_values values

-- the bytes that a text spells
abbrev pub bytes_spelled : List ℕ → List ℕ
bytes_spelled text = bytes_of_values (values_in text)

-- the place of the first byte that is neither a digit nor a blank
abbrev pub bad_place : List ℕ → Option ℕ
bad_place text = position (λ b. not (is_some (digit_value b) || is_blank b)) text

abbrev pub odd_place : List ℕ → Option ℕ
odd_place text = if length (values_in text) % 2 == 1 then Some (length text) else None

abbrev pub or_else : Option ℕ → Option ℕ → Option ℕ
or_else (Some place) other = Some place
or_else None other = other

-- where a text spells no bytes: at the first such byte, or at its end where its digits are odd in number
abbrev pub hex_fault : List ℕ → Option ℕ
hex_fault text = or_else (bad_place text) (odd_place text)
