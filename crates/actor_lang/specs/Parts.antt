-- How a text is read from its front.
-- Source: docs/FORMATS.md, "Text of a relay": lines and words.
use Rattle.std.specs.Prelude.{◌≡◌, ℕ, ◌+◌, List, [], length, map, Option, None, Some, Result, Ok, Err}
use Rattle.std.specs.Borrow.{Bor}
use Rattle.board_model.specs.FileLines.{parts_at}
use Rattle.actor_lang.specs.declared.fault.InputFault.{InputFault}
use Rattle.actor_lang.specs.InputFaults.{RefusedInput, Refuses}

-- the words that are lent
abbrev pub seen : List (Bor (List ℕ)) → List (List ℕ)
seen words = map (λ w. w.now) words

-- the parts of what is left behind a separator, and how many bytes are left with it
abbrev pub parts_left : ℕ → Option (Bor (List ℕ)) → List (List ℕ)
parts_left c None = []
parts_left c (Some rest) = parts_at c rest.now

abbrev pub bytes_left : Option (Bor (List ℕ)) → ℕ
bytes_left None = 0
bytes_left (Some rest) = length rest.now + 1

-- a reader answers what is told, unless memory runs out
abbrev pub Answers : {X Y : Type 0} → (X → Y) → Result X InputFault → Result Y RefusedInput → Type 0
Answers view (Ok x) told = told ≡ Ok (view x)
Answers view (Err e) told = Refuses e told
