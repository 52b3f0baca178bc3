-- What holds of the full names of endpoints: which are read, and as which endpoint.
-- Source: docs/PROFILE.md, "Names".
use Rattle.std.specs.Prelude.{◌≡◌, ℕ, List, IsTrue, Some}
use Rattle.mc_base.specs.declared.name.EndName.{EndName}
use Rattle.mc_base.specs.FullName.{full_name, is_in_range, endpoint_named}

-- each full name is read back as its endpoint
abbrev pub FullNamesReadBack : Type 0
FullNamesReadBack = (n : EndName) → IsTrue (is_in_range n) → endpoint_named (full_name n) ≡ Some n

-- a name that is read is the full name of that endpoint, byte for byte
abbrev pub OnlyFullNamesAreRead : Type 0
OnlyFullNamesAreRead =
    (name : List ℕ) (n : EndName) → endpoint_named name ≡ Some n → (name ≡ full_name n) × IsTrue (is_in_range n)

-- no name names two endpoints
abbrev pub NoNameNamesTwo : Type 0
NoNameNamesTwo =
    (n m : EndName) → IsTrue (is_in_range n) → IsTrue (is_in_range m) → full_name n ≡ full_name m → n ≡ m
