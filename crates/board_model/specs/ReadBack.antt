-- A letter that is made into a frame is read back as that letter.
-- Source: docs/FORMATS.md, "Frame" and "Payload header, version 1".
use Rattle.std.specs.Prelude.{◌≡◌, ℕ, ◌≤◌, ◌<◌, ◌^◌}
use Rattle.mc_base.specs.Limits.{first_address}
use Rattle.mc_base.specs.Frame.{made}
use Rattle.mc_base.specs.Letter.{PlainLetter, spelling, HasSpelling}
use Rattle.mc_base.specs.Reading.{reading, says}

-- this holds of each letter that has a spelling, from an address that fits its field to one that an endpoint may have
abbrev pub LettersAreReadBack : Type 0
LettersAreReadBack = (source destination : ℕ) (l : PlainLetter) → HasSpelling l → source < 2 ^ 32 → first_address ≤ destination → destination < 2 ^ 32 → reading (made source destination (spelling l)) ≡ says source destination l
