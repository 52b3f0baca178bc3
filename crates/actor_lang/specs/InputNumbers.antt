-- The numbers of a line, each in its range.
-- Source: docs/FORMATS.md, "Text of a relay" and "Text of numbered calls". Numbers are decimal without leading zeros.
use Rattle.std.specs.Prelude.{ℕ, ◌&&◌, List, nat_le, Option, None, Some, if◌then◌else◌}
use Rattle.board_model.specs.FileWords.{Numeral, is_number, number}
use Rattle.board_model.specs.LineReasons.{is_link_size}

-- the number that a word writes, where it is one
abbrev pub number_in : Numeral → Option ℕ
number_in n = if is_number n then Some (number n.word) else None

-- the size of a ring: a power of two, at least so large and at most 256
abbrev pub ring_size : ℕ → List ℕ → Numeral
ring_size least word = record { admits = λ size. nat_le least size && is_link_size size; word = word }
