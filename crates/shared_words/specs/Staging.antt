-- What a half has stored and not yet published.
-- Source: VIRTIO 1.2, sections 2.7.13 and 2.7.14: the entry is written before idx.
use Rattle.std.specs.Prelude.{◌≡◌, ℕ, ◌%◌, ◌≤◌, List, slice_index}
use Rattle.shared_words.specs.Way.{Way}
use Rattle.shared_words.specs.declared.view.Role.{Role}
use Rattle.shared_words.specs.declared.view.Role.TheVariants.{Driver, Device}
use Rattle.shared_words.specs.declared.view.Staged.{Staged}
use Rattle.shared_words.specs.declared.view.Staged.TheVariants.{Idle, LengthStored, NumberStored, BothStored, NumberRead}

-- the driver stores the length first, and the device the number
abbrev pub InOrder : Role → Staged → Type 0
InOrder Driver (NumberStored id) = ⊥
InOrder Device (LengthStored id len) = ⊥
InOrder role staged = Unit {0}

-- what is stored is of a held number, and stands in the words of the n-th entry, which is the next
module _ (way : Way) (size width : ℕ) (words : List ℕ) (Held : ℕ → Type 0) (n : ℕ) where
  abbrev pub NumberStands : ℕ → Type 0
  NumberStands id = slice_index words (way.number (n % size)) ≡ id

  abbrev pub LengthStands : ℕ → ℕ → Type 0
  LengthStands id len = slice_index words (way.len (way.len_place n id)) ≡ len

  abbrev pub StagedHolds : Staged → Type 0
  StagedHolds Idle = Unit {0}
  StagedHolds (LengthStored id len) = Held id × LengthStands id len × (len ≤ width)
  StagedHolds (NumberStored id) = Held id × NumberStands id
  StagedHolds (BothStored id len) = Held id × NumberStands id × LengthStands id len × (len ≤ width)
  StagedHolds (NumberRead id) = Unit {0}
