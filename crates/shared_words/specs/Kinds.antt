-- What each kind of step tells the half that makes it: how its view and its slots are after the step.
-- Source: docs/ARCHITECTURE.md, the table of the kinds of step.
use Rattle.std.specs.Prelude.{◌≡◌, ℕ, ◌+◌, ◌<◌, ◌≤◌, List, ◌∷◌, map, length, Option, Some}
use Rattle.atomic_table.specs.Table.{Me, Step}
use Rattle.mc_base.specs.Stored.{Stored}
use Rattle.shared_words.specs.Layout.{word}
use Rattle.shared_words.specs.Entry.{times}
use Rattle.shared_words.specs.Places.{begins, starts_with}
use Rattle.shared_words.specs.Change.{staging, writing, looking, taking, ahead}
use Rattle.shared_words.specs.Slots.{Slot, fronted, numbers_from, vacant}
use Rattle.shared_words.specs.RingRule.{new_view}
use Rattle.shared_words.specs.declared.field.Field.TheVariants.{DescLen}
use Rattle.shared_words.specs.declared.view.Role.{Role}
use Rattle.shared_words.specs.declared.view.Role.TheVariants.{Driver, Device}
use Rattle.shared_words.specs.declared.view.Staged.TheVariants.{LengthStored, NumberStored, BothStored, NumberRead}
use Rattle.shared_words.specs.declared.view.HalfView.{HalfView}
use Rattle.shared_words.specs.declared.view.View.{View}
use Rattle.shared_words.specs.declared.view.View.TheVariants.{Opening, Whole, Live}

-- what a seat knows, and the slots that it carries
abbrev pub Seated : Type 0
Seated = Me (Option Stored) View

abbrev pub Made : Type 0
Made = Step (Option Stored)

-- a kind of step that each half makes, on its own way
abbrev pub by_either : (Role → Made → Seated → ℕ → Seated → Type 0) → Made → Seated → ℕ → Seated → Type 0
by_either kind made old r new = (role : Role) → kind role made old r new

-- begin: both views are new, and every slot is taken
abbrev pub begun : Made → Seated → ℕ → Seated → Type 0
begun made old r new = (width : ℕ) → old.0 ≡ Opening width → (new.0 ≡ Whole (new_view width) (new_view width)) × (new.1 ≡ map vacant (numbers_from 0 made.slots))

-- store descriptor length
abbrev pub desc_len_stored : Made → Seated → ℕ → Seated → Type 0
desc_len_stored made old r new = (v : HalfView) (id : ℕ) → old.0 ≡ Live Driver v → made.word ≡ word made.slots (DescLen id) → (new.0 ≡ Live Driver (staging (LengthStored id r) v)) × (new.1 ≡ fronted id old.1)

-- store available entry
abbrev pub avail_entry_stored : Made → Seated → ℕ → Seated → Type 0
avail_entry_stored made old r new = (v : HalfView) (id len : ℕ) → old.0 ≡ Live Driver v → v.staged ≡ LengthStored id len → (new.0 ≡ Live Driver (staging (BothStored id len) v)) × (new.1 ≡ old.1)

-- store used id
abbrev pub used_id_stored : Made → Seated → ℕ → Seated → Type 0
used_id_stored made old r new = (v : HalfView) → old.0 ≡ Live Device v → (new.0 ≡ Live Device (staging (NumberStored r) v)) × (new.1 ≡ fronted r old.1)

-- store used length
abbrev pub used_len_stored : Made → Seated → ℕ → Seated → Type 0
used_len_stored made old r new = (v : HalfView) (id : ℕ) → old.0 ≡ Live Device v → v.staged ≡ NumberStored id → (new.0 ≡ Live Device (staging (BothStored id r) v)) × (new.1 ≡ old.1)

-- publish available index, or used index: the slot in front is given back with the buffer
abbrev pub index_published : Role → Made → Seated → ℕ → Seated → Type 0
index_published role made old r new = (v : HalfView) (b : Stored) (len : ℕ) (rest : List Slot) → old.0 ≡ Live role v → v.staged ≡ BothStored b.number len → old.1 ≡ (b.number, Some b) ∷ rest
    → (new.0 ≡ Live role (writing (b, len) v)) × (new.1 ≡ rest)

-- load available index, or used index: what it shows was shown before or more, and with the numbers held it is at most the size
abbrev pub index_loaded : Role → Made → Seated → ℕ → Seated → Type 0
index_loaded role made old r new = (v : HalfView) → old.0 ≡ Live role v → let n = ahead r (length v.taken) in
    (new.0 ≡ Live role (looking n v)) × (new.1 ≡ old.1) × (r < 65536) × (v.shown ≤ length v.taken + n) × (length v.taken + n + starts_with role made.slots ≤ made.slots + length v.written) × (n ≤ made.slots)

-- load available entry, or used id
abbrev pub number_loaded : Role → Made → Seated → ℕ → Seated → Type 0
number_loaded role made old r new = (v : HalfView) → old.0 ≡ Live role v → (new.0 ≡ Live role (staging (NumberRead r) v)) × (new.1 ≡ old.1) × (r < made.slots)

-- load descriptor length, or used length: the slot is taken with its buffer, whose number was not held and which is as long as all buffers of the ring
abbrev pub len_loaded : Role → Made → Seated → ℕ → Seated → Type 0
len_loaded role made old r new = (v : HalfView) (id : ℕ) → old.0 ≡ Live role v → v.staged ≡ NumberRead id
    → (b : Stored) × (b.number ≡ id) × (new.0 ≡ Live role (taking (b, r) v)) × (new.1 ≡ (id, Some b) ∷ old.1) × (r ≤ v.width) × (length b.bytes ≡ v.width) × (times id v.written ≡ begins role made.slots id + times id v.taken)
