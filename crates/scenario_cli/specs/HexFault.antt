-- What reading a hexadecimal text byte by byte makes of it.
-- Source: docs/FORMATS.md, "Text of a frame".
use Rattle.std.specs.Prelude.{◌≡◌, ℕ, ◌+◌, ◌*◌, List, [], ◌∷◌, ◌++◌, Option, Some, None}
use Rattle.scenario_cli.specs.declared.hex.HexFault.{HexFault}
use Rattle.scenario_cli.specs.declared.hex.HexFault.TheVariants.{At, NoMemory}
use Rattle.scenario_cli.specs.Hex.{hex_fault}

-- a fault that is told is the one that the text has. Want of memory says nothing of the text
abbrev pub IsHexFault : List ℕ → HexFault → Type 0
IsHexFault text (At place) = hex_fault text ≡ Some place
IsHexFault text NoMemory = Unit {0}

-- the value of a digit was taken, where `high` waited: then it is waiting, or ends a byte
abbrev pub TakesDigit : List ℕ → Option ℕ → ℕ → List ℕ → Option ℕ → Type 0
TakesDigit old None digit new left = (new ≡ old) × (left ≡ Some digit)
TakesDigit old (Some high) digit new left = (new ≡ old ++ (16 * high + digit) ∷ []) × (left ≡ None)
