-- What the calls of every sending end do to the list of its free buffers.
-- Source: docs/PROFILE.md, "Lanes".
use Rattle.std.specs.Prelude.{◌≡◌, ℕ, List, ◌∷◌, ◌++◌, length}

-- `count` numbers were appended to the list
abbrev pub AppendsCount : ℕ → List ℕ → List ℕ → Type 0
AppendsCount count old new = (more : List ℕ) × (length more ≡ count) × (new ≡ old ++ more)

-- the first number was removed from the list
abbrev pub TakesFirst : List ℕ → List ℕ → Type 0
TakesFirst old new = (first : ℕ) × (old ≡ first ∷ new)
