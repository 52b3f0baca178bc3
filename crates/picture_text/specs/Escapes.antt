-- Bytes as they stand in SVG and in JSON.
-- Source: XML 1.0, section 2.4, and RFC 8259, section 7.
use Rattle.std.specs.Prelude.{ℕ, List, [], ◌∷◌, codes, if◌then◌else◌, ◌==◌, ◌&&◌, nat_lt}

-- a printable byte as it is, and any other as a question mark
abbrev pub plain_of : ℕ → List ℕ
plain_of b = if nat_lt 31 b && nat_lt b 127 then b ∷ [] else 63 ∷ []

-- 60, 62, 38 and 34 are the signs < > & and "
abbrev pub xml_of : ℕ → List ℕ
xml_of b = if b == 60 then codes "&lt;" else if b == 62 then codes "&gt;" else if b == 38 then codes "&amp;" else if b == 34 then codes "&quot;" else plain_of b

-- 34 and 92 are " and \
abbrev pub json_of : ℕ → List ℕ
json_of b = if b == 34 then 92 ∷ 34 ∷ [] else if b == 92 then 92 ∷ 92 ∷ [] else plain_of b
