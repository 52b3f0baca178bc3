-- What contracts see of a bell, of its sleeper and of its ringers.
-- Source: docs/ARCHITECTURE.md, "Doorbells".
use Rattle.std.specs.Prelude.{◌≡◌, ℕ, ◌+◌, false}
use Rattle.atomic_table.specs.Seated.{TableId}
use Rattle.door_bell.specs.Change.{new_ringer}
use Rattle.door_bell.specs.declared.view.SleeperView.{SleeperView}
use Rattle.door_bell.specs.declared.view.RingerView.{RingerView}

-- which bell it is, and how many ringers it has
pub record BellShown : Type 0 where
  pub table : TableId
  pub ringers : ℕ

pub record SleeperShown : Type 0 where
  pub table : TableId
  pub view : SleeperView

pub record RingerShown : Type 0 where
  pub table : TableId
  pub number : ℕ
  pub view : RingerView

-- the seat is one of this bell
abbrev pub IsSleeperOf : BellShown → SleeperShown → Type 0
IsSleeperOf bell s = s.table ≡ bell.table

abbrev pub IsRingerOf : BellShown → RingerShown → Type 0
IsRingerOf bell r = r.table ≡ bell.table

-- the sleeper with another view
abbrev pub with_view : SleeperView → SleeperShown → SleeperShown
with_view view s = record s { view = view }

-- the new ringer with this number
abbrev pub ringer_of : TableId → ℕ → RingerShown
ringer_of table p = record { table = table; number = p; view = new_ringer }

-- it rang once more, and is quiet
abbrev pub having_rung : RingerShown → RingerShown
having_rung r = record r { view = record { rings = r.view.rings + 1; posting = false } }
