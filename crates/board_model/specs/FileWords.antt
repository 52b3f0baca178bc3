-- What a word of a scenario file says: a number, bytes or a label.
-- Source: docs/FORMATS.md, "Scenario files": numbers are decimal without leading zeros. Bytes are hexadecimal of either
-- case, or a dash for none. A label is a letter a to z, and then up to 15 of a to z, digits and _.
use Rattle.std.specs.Prelude.{ℕ, ◌+◌, ◌-◌, ◌*◌, Bool, false, ◌&&◌, ◌||◌, List, [], ◌∷◌, length, Option, None, Some, unwrap_or, nat_le, ◌==◌, if◌then◌else◌}
use Rattle.std.specs.List.{list_all}

abbrev pub is_digit : ℕ → Bool
is_digit b = nat_le 48 b && nat_le b 57

-- the number whose first digits are read already, with the digits that follow
abbrev pub number_from : ℕ → List ℕ → Option ℕ
number_from n [] = Some n
number_from n (b ∷ bs) = if is_digit b then number_from (n * 10 + (b - 48)) bs else None

abbrev pub is_zero_alone : List ℕ → Option ℕ
is_zero_alone [] = Some 0
is_zero_alone (b ∷ bs) = None

-- the number that a word writes
abbrev pub number_of : List ℕ → Option ℕ
number_of [] = None
number_of (b ∷ bs) = if b == 48 then is_zero_alone bs else number_from 0 (b ∷ bs)

abbrev pub is_within : ℕ → ℕ → ℕ → Bool
is_within least most n = nat_le least n && nat_le n most

-- a word that has to be a number, and which numbers it may be
pub record Numeral : Type 0 where
  pub admits : ℕ → Bool
  pub word : List ℕ

-- a number of a range
abbrev pub numeral : ℕ → ℕ → List ℕ → Numeral
numeral least most word = record { admits = is_within least most; word = word }

abbrev pub is_admitted : (ℕ → Bool) → Option ℕ → Bool
is_admitted admits None = false
is_admitted admits (Some n) = admits n

abbrev pub is_number : Numeral → Bool
is_number n = is_admitted n.admits (number_of n.word)

-- the number of a word that is one
abbrev pub number : List ℕ → ℕ
number word = unwrap_or (number_of word) 0

-- 0 to 9, a to f or A to F
abbrev pub digit_value : ℕ → Option ℕ
digit_value b = if nat_le 48 b && nat_le b 57 then Some (b - 48) else if nat_le 97 b && nat_le b 102 then Some (b - 87) else if nat_le 65 b && nat_le b 70 then Some (b - 55) else None

abbrev pub byte_and : Option ℕ → Option ℕ → Option (List ℕ) → Option (List ℕ)
byte_and (Some high) (Some low) (Some bytes) = Some ((high * 16 + low) ∷ bytes)
byte_and high low bytes = None

-- the bytes that pairs of digits write
abbrev pub pairs_of : List ℕ → Option (List ℕ)
pairs_of [] = Some []
pairs_of (a ∷ []) = None
pairs_of (a ∷ b ∷ ds) = byte_and (digit_value a) (digit_value b) (pairs_of ds)

-- the bytes that a word writes: 45 is the dash
abbrev pub is_dash : List ℕ → Bool
is_dash [] = false
is_dash (b ∷ []) = b == 45
is_dash (b ∷ c ∷ cs) = false

abbrev pub bytes_of : List ℕ → Option (List ℕ)
bytes_of word = if is_dash word then Some [] else pairs_of word

-- a word that has to be bytes, and how many they may be
pub record Content : Type 0 where
  pub least : ℕ
  pub most : ℕ
  pub word : List ℕ

abbrev pub content : ℕ → ℕ → List ℕ → Content
content least most word = record { least = least; most = most; word = word }

abbrev pub are_within : ℕ → ℕ → Option (List ℕ) → Bool
are_within least most None = false
are_within least most (Some bytes) = is_within least most (length bytes)

abbrev pub are_bytes : Content → Bool
are_bytes c = are_within c.least c.most (bytes_of c.word)

-- the bytes of a word that writes some
abbrev pub bytes : List ℕ → List ℕ
bytes word = unwrap_or (bytes_of word) []

-- a to z
abbrev pub is_letter_byte : ℕ → Bool
is_letter_byte b = nat_le 97 b && nat_le b 122

abbrev pub is_label_byte : ℕ → Bool
is_label_byte b = is_letter_byte b || ((nat_le 48 b && nat_le b 57) || b == 95)

abbrev pub is_label : List ℕ → Bool
is_label [] = false
is_label (b ∷ bs) = is_letter_byte b && nat_le (length bs) 15 && list_all is_label_byte bs
