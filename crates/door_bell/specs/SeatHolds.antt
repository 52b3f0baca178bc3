-- What a bell's table and its seats keep between calls.
-- Source: docs/ARCHITECTURE.md, "Doorbells".
use Rattle.std.specs.Prelude.{◌≡◌, ℕ, ◌<◌, false}
use Rattle.atomic_table.specs.Seated.{TableId}
use Rattle.door_bell.specs.Layout.{word_count, news_word}
use Rattle.door_bell.specs.Change.{new_ringer, new_sleeper}
use Rattle.door_bell.specs.declared.view.SleeperView.{SleeperView}
use Rattle.door_bell.specs.declared.view.RingerView.{RingerView}
use Rattle.door_bell.specs.declared.view.BellView.{BellView}
use Rattle.door_bell.specs.declared.view.BellView.TheVariants.{Sleeping, Ringing}

pub record TableHolds (table : TableId) (key ringers : ℕ) : Type 0 where
  pub words : table.words ≡ word_count key
  pub ringers_are : key ≡ ringers
  pub some_ringer : 0 < ringers

-- the view of a sleeper's seat, and of a ringer's
abbrev pub sleeper_in : BellView → SleeperView
sleeper_in (Sleeping v) = v
sleeper_in view = new_sleeper 0

abbrev pub ringer_in : BellView → RingerView
ringer_in (Ringing p v) = v
ringer_in view = new_ringer

-- every ringer of the table parted from the sleeper
pub record SleeperHolds (table : TableId) (view : BellView) : Type 0 where
  pub sleeping : view ≡ Sleeping (sleeper_in view)
  pub ringers : table.words ≡ word_count (sleeper_in view).ringers

-- a ringer is quiet between its calls
pub record RingerHolds (table : TableId) (view : BellView) (number : ℕ) : Type 0 where
  pub ringing : view ≡ Ringing number (ringer_in view)
  pub quiet : (ringer_in view).posting ≡ false
  pub in_range : news_word number < table.words
