-- What reading the fields of a letter gives.
-- Source: the payload header of docs/FORMATS.md.
use Rattle.std.specs.Prelude.{◌≡◌, ◌<◌, ℕ, Result, Ok, Err, Some, None, List, []}
use Rattle.mc_base.specs.FaultRow.{first_fault}
use Rattle.mc_base.specs.Letter.{Fields, version_1, saying_of, saying_fields, CanBeSaid}
use Rattle.mc_base.specs.LetterFaults.{field_faults}
use Rattle.mc_base.specs.declared.letter.Letter.{Letter}
use Rattle.mc_base.specs.declared.fault.LetterFault.{LetterFault}

-- a letter of these fields, which have no fault
pub record IsRead (f : Fields) (l : Letter) : Type 0 where
  pub fields_are : saying_fields (saying_of l) ≡ f
  pub lawful : CanBeSaid (saying_of l)
  pub faultless : first_fault (field_faults f) ≡ None

-- a letter of these fields, or their first fault
abbrev pub IsReading : Fields → Result Letter LetterFault → Type 0
IsReading f (Ok l) = IsRead f l
IsReading f (Err e) = first_fault (field_faults f) ≡ Some e

-- the channel of a letter with neither argument nor content, or the first fault, whichever kind without both it is
abbrev pub IsBare : ℕ → ℕ → List ℕ → Result ℕ LetterFault → Type 0
IsBare argument channel content (Ok c) = (c ≡ channel) × (argument ≡ 0) × (0 < channel) × (content ≡ [])
IsBare argument channel content (Err e) = first_fault (field_faults (version_1 3 argument channel content)) ≡ Some e
