-- The slots that a seat carries. The one in front can be exchanged.
-- Source: atomic_table: a seat gives back the slot that it took last.
use Rattle.std.specs.Prelude.{ℕ, ◌==◌, zero, suc, List, [], ◌∷◌, Option, None, if◌then◌else◌}
use Rattle.mc_base.specs.Stored.{Stored}
use Rattle.shared_words.specs.Entry.{times_by}

-- a number, and what its slot holds
abbrev pub Slot : Type 0
Slot = ℕ × Option Stored

-- the slot x below the first
abbrev pub under : Slot → List Slot → List Slot
under x [] = x ∷ []
under x (y ∷ ys) = y ∷ x ∷ ys

-- the slot of a number brought to the front
abbrev pub fronted : ℕ → List Slot → List Slot
fronted id [] = []
fronted id (x ∷ xs) = if x.0 == id then x ∷ xs else under x (fronted id xs)

-- how often a number's slot is carried
abbrev pub carried_times : ℕ → List Slot → ℕ
carried_times x slots = times_by (λ (s : Slot). s.0) x slots

-- what the slot in front holds
abbrev pub front_value : List Slot → Option Stored
front_value [] = None
front_value (x ∷ xs) = x.1

-- the numbers from j on, n of them
abbrev pub numbers_from : ℕ → ℕ → List ℕ
numbers_from j zero = []
numbers_from j (suc n) = j ∷ numbers_from (suc j) n

-- an empty slot
abbrev pub vacant : ℕ → Slot
vacant id = (id, None)
