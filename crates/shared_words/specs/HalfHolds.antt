-- What a half keeps, so that it need not ask its view: counts, the number that it read, and its slots.
-- Source: docs/ARCHITECTURE.md: a half carries the slots of just the numbers that it holds.
use Rattle.std.specs.Prelude.{◌≡◌, ℕ, ◌+◌, ◌%◌, ◌<◌, ◌≤◌, List, ◌∷◌, length}
use Rattle.atomic_table.specs.Table.{rest}
use Rattle.shared_words.specs.Entry.{times, inside}
use Rattle.shared_words.specs.Places.{begins}
use Rattle.shared_words.specs.Change.{IsStored}
use Rattle.shared_words.specs.Slots.{Slot, carried_times, front_value}
use Rattle.shared_words.specs.Kinds.{Seated}
use Rattle.shared_words.specs.declared.view.Role.{Role}
use Rattle.shared_words.specs.declared.view.Role.TheVariants.{Driver}
use Rattle.shared_words.specs.declared.view.Staged.TheVariants.{NumberRead}
use Rattle.shared_words.specs.declared.view.HalfView.{HalfView}
use Rattle.shared_words.specs.declared.view.View.{View}
use Rattle.shared_words.specs.declared.view.View.TheVariants.{Live}
use Rattle.shared_words.specs.RingRule.{new_view}

pub record HalfHolds (size : ℕ) (role : Role) (view : HalfView) (slots : List Slot) (written taken read : ℕ) : Type 0 where
  pub written_count : written ≡ length view.written % 65536
  pub taken_count : taken ≡ length view.taken % 65536
  pub number_read : (id : ℕ) → view.staged ≡ NumberRead id → (read ≡ id) × (id < size)
  pub carries : (x : ℕ) → carried_times x slots + times x view.written ≡ begins role size x + times x view.taken
  pub once : (x : ℕ) → carried_times x slots ≤ inside size x
  -- the slot of what is staged can be exchanged
  pub front : (id : ℕ) → IsStored view.staged id → slots ≡ (id, front_value slots) ∷ rest slots

-- the half of a live view
abbrev pub role_in : View → Role
role_in (Live role view) = role
role_in view = Driver

abbrev pub half_in : View → HalfView
half_in (Live role view) = view
half_in view = new_view 0

pub record SeatHolds (size : ℕ) (seated : Seated) (written taken read : ℕ) : Type 0 where
  pub live : seated.0 ≡ Live (role_in seated.0) (half_in seated.0)
  pub holds : HalfHolds size (role_in seated.0) (half_in seated.0) seated.1 written taken read
