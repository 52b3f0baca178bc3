-- Numbers in layouts. All are little-endian.
-- Source: the RPMsg headers of Linux (__le32, __le16), and docs/FORMATS.md for the payload header.
use Rattle.std.specs.Prelude.{ℕ, List, drop}
use Rattle.byteorder.specs.Endian.{little_number}

-- the number in the bytes from a place on, of this width
abbrev pub number_at : ℕ → ℕ → List ℕ → ℕ
number_at place width bytes = little_number width (drop place bytes)
