-- How a step changes the view of the half that makes it. Each of these changes is one step, and counts as one.
-- Source: docs/ARCHITECTURE.md, the table of the kinds of step.
use Rattle.std.specs.Prelude.{◌≡◌, ℕ, ◌+◌, ◌-◌, ◌%◌, [], ◌∷◌, ◌++◌, length}
use Rattle.shared_words.specs.Entry.{Entry}
use Rattle.shared_words.specs.declared.view.Staged.{Staged}
use Rattle.shared_words.specs.declared.view.Staged.TheVariants.{Idle, LengthStored, NumberStored, BothStored, NumberRead}
use Rattle.shared_words.specs.declared.view.HalfView.{HalfView}

-- something is staged
abbrev pub staging : Staged → HalfView → HalfView
staging staged view = record view { staged = staged; steps = view.steps + 1 }

-- what was staged is offered or returned
abbrev pub writing : Entry → HalfView → HalfView
writing e view = record view { written = view.written ++ e ∷ []; staged = Idle; steps = view.steps + 1 }

-- a look shows n entries that were not taken
abbrev pub looking : ℕ → HalfView → HalfView
looking n view = record view { shown = length view.taken + n; looks = view.looks ++ n ∷ []; steps = view.steps + 1 }

-- the entry whose number was read is fetched or reclaimed
abbrev pub taking : Entry → HalfView → HalfView
taking e view = record view { taken = view.taken ++ e ∷ []; staged = Idle; steps = view.steps + 1 }

-- how many entries a load of idx shows beyond those that were taken
abbrev pub ahead : ℕ → ℕ → ℕ
ahead idx taken = (idx + 65536 - taken % 65536) % 65536

-- the number and the length that are staged
abbrev pub number_in : Staged → ℕ
number_in (LengthStored id len) = id
number_in (NumberStored id) = id
number_in (BothStored id len) = id
number_in (NumberRead id) = id
number_in Idle = 0

abbrev pub len_in : Staged → ℕ
len_in (LengthStored id len) = len
len_in (BothStored id len) = len
len_in staged = 0

-- this number is staged for an offer or a return
abbrev pub IsStored : Staged → ℕ → Type 0
IsStored (LengthStored id len) x = id ≡ x
IsStored (NumberStored id) x = id ≡ x
IsStored (BothStored id len) x = id ≡ x
IsStored staged x = ⊥
