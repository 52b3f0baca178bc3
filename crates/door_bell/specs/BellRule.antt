-- The rule of a bell: what holds of its words and of all views between any two steps of its sleeper and its ringers.
-- Source: docs/ARCHITECTURE.md, "Doorbells".
use Rattle.std.specs.Prelude.{◌≡◌, ◌≢◌, ◌⊎◌, ℕ, ◌<◌, true, List, [], ◌∷◌, length, slice_index}
use mathlib.Core.Option.{some}
use lib.ListN.{get_elem?}
use Rattle.atomic_table.specs.Table.{State}
use Rattle.door_bell.specs.declared.view.Stage.TheVariants.{Awake, Asleep}
use Rattle.door_bell.specs.declared.view.SleeperView.{SleeperView}
use Rattle.door_bell.specs.declared.view.RingerView.{RingerView}
use Rattle.door_bell.specs.declared.view.BellView.{BellView}
use Rattle.door_bell.specs.declared.view.BellView.TheVariants.{Opening, Sleeping, Ringing}
use Rattle.door_bell.specs.Layout.{word_count, state_of, news_of, StateFits}

-- the table of a bell: words and views. It has no slots
abbrev pub BellState : Type 0
BellState = State (Unit {0}) BellView

-- ringer p is inside its call: its news are posted, and it has not tried to ring since
abbrev pub IsPosting : List BellView → ℕ → Type 0
IsPosting views p = (seat : ℕ) × (v : RingerView) × (get_elem? views seat ≡ some (Ringing p v)) × (v.posting ≡ true)

-- ringer p has no news, or the bell is rung, or ringer p is about to ring it
abbrev pub IsHeard : List ℕ → List BellView → ℕ → Type 0
IsHeard words views p = (news_of words p ≡ 0) ⊎ ((state_of words ≡ 2) ⊎ IsPosting views p)

-- each ringer that parted has one seat, with its own number
pub record RingersHold (ringers : ℕ) (views : List BellView) : Type 0 where
  pub each : (p : ℕ) → p < ringers → (seat : ℕ) × (v : RingerView) × (get_elem? views seat ≡ some (Ringing p v))
  pub in_range : (seat p : ℕ) (v : RingerView) → get_elem? views seat ≡ some (Ringing p v) → p < ringers
  pub one_seat : (i j p : ℕ) (v w : RingerView) → get_elem? views i ≡ some (Ringing p v) → get_elem? views j ≡ some (Ringing p w) → i ≡ j

-- a bell that has begun
pub record Running (count : ℕ) (s : BellState) : Type 0 where
  pub sleeper : SleeperView
  pub sleeper_seat : ℕ
  pub sleeper_at : get_elem? s.views sleeper_seat ≡ some (Sleeping sleeper)
  pub one_sleeper : (seat : ℕ) (v : SleeperView) → get_elem? s.views seat ≡ some (Sleeping v) → seat ≡ sleeper_seat
  -- nobody can begin it again
  pub begun : (seat : ℕ) → get_elem? s.views seat ≡ some Opening → ⊥
  pub ringers : RingersHold sleeper.ringers s.views
  pub words : length s.words ≡ word_count count
  pub state : StateFits sleeper.stage (state_of s.words)
  -- of each ringer that the sleeper found since it began to arm
  pub heard : (p : ℕ) → p < sleeper.found → IsHeard s.words s.views p
  pub awake : sleeper.stage ≡ Awake → sleeper.found ≡ 0
  pub asleep : sleeper.stage ≡ Asleep → sleeper.found ≡ sleeper.ringers

-- a bell that has not begun: there is no view, and every word is 0
pub record NotBegun (count : ℕ) (s : BellState) : Type 0 where
  pub views : s.views ≡ Opening ∷ []
  pub words : length s.words ≡ word_count count
  pub zeros : (i : ℕ) → slice_index s.words i ≡ 0

abbrev pub BellRule : ℕ → BellState → Type 0
BellRule count s = NotBegun count s ⊎ Running count s

-- the bell law: while the sleeper is asleep and the news of a ringer are posted and not cleared, the bell is rung, or that ringer
-- is inside its call
abbrev pub AsleepIsRung : Type 0
AsleepIsRung = (count : ℕ) (s : BellState) (seat p : ℕ) (v : SleeperView) → BellRule count s → get_elem? s.views seat ≡ some (Sleeping v) → v.stage ≡ Asleep → p < v.ringers → news_of s.words p ≢ 0
    → (state_of s.words ≡ 2) ⊎ IsPosting s.views p
