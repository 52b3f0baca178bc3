-- What holds of letters, of parts of letters, and of their spellings.
-- Source: the payload header of docs/FORMATS.md.
use Rattle.std.specs.Prelude.{◌≡◌, ℕ, List, None}
use Rattle.mc_base.specs.FaultRow.{first_fault}
use Rattle.mc_base.specs.Letter.{Saying, CanBeSaid, IsSaying, saying_text}
use Rattle.mc_base.specs.LetterFaults.{letter_faults}

-- the spelling of each letter or part that has one says it, and has no fault
abbrev pub LettersReadBack : Type 0
LettersReadBack =
    (s : Saying) → CanBeSaid s
    → IsSaying (saying_text s) s × (first_fault (letter_faults (saying_text s)) ≡ None)

-- a payload says one letter or part at most
abbrev pub NoPayloadHasTwoLetters : Type 0
NoPayloadHasTwoLetters = (payload : List ℕ) (s t : Saying) → IsSaying payload s → IsSaying payload t → s ≡ t
