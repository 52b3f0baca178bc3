-- What each kind of step tells the seat that makes it. The premises are the row of the table: whose step it is, at which stage, on
-- which word, and with which value.
-- Source: docs/ARCHITECTURE.md, the table of a bell's kinds of step.
use Rattle.std.specs.Prelude.{◌≡◌, ◌⊎◌, ℕ}
use Rattle.atomic_table.specs.Table.{Me, Step}
use Rattle.door_bell.specs.Layout.{news_word}
use Rattle.door_bell.specs.Change.{new_sleeper, new_ringer, parting, posting_news, quiet, clearing, arming, hearing, looking, waking}
use Rattle.door_bell.specs.declared.view.Stage.TheVariants.{Awake, Arming, Asleep, GivingUp, Rung}
use Rattle.door_bell.specs.declared.view.SleeperView.{SleeperView}
use Rattle.door_bell.specs.declared.view.RingerView.{RingerView}
use Rattle.door_bell.specs.declared.view.BellView.{BellView}
use Rattle.door_bell.specs.declared.view.BellView.TheVariants.{Opening, Sleeping, Ringing}

-- what a seat knows
abbrev pub Seated : Type 0
Seated = Me (Unit {0}) BellView

abbrev pub Made : Type 0
Made = Step (Unit {0})

-- begin: the sleeper is awake, and no ringer has parted
abbrev pub begun : Made → Seated → ℕ → Seated → Type 0
begun made old r new = old.0 ≡ Opening → new.0 ≡ Sleeping (new_sleeper 0)

-- a ringer parts: its number is how many parted before it
abbrev pub sleeper_part : BellView → BellView
sleeper_part (Sleeping v) = Sleeping (parting v)
sleeper_part view = view

abbrev pub ringer_part : BellView → BellView
ringer_part (Sleeping v) = Ringing v.ringers new_ringer
ringer_part view = view

-- post: a ringer stores 1 as its news
abbrev pub news_posted : Made → Seated → ℕ → Seated → Type 0
news_posted made old r new = (p : ℕ) (v : RingerView) → old.0 ≡ Ringing p v → made.word ≡ news_word p → r ≡ 1 → new.0 ≡ Ringing p (posting_news v)

-- ring: a ringer exchanges the state from 1 to 2, in one try
abbrev pub ring_tried : Made → Seated → ℕ → Seated → Type 0
ring_tried made old r new = (p : ℕ) (v : RingerView) → old.0 ≡ Ringing p v → made.word ≡ 0 → made.first ≡ 1 → made.second ≡ 2 → new.0 ≡ Ringing p (quiet v)

-- clear: an awake sleeper stores 0 as the news of a ringer
abbrev pub news_cleared : Made → Seated → ℕ → Seated → Type 0
news_cleared made old r new = (p : ℕ) (v : SleeperView) → old.0 ≡ Sleeping v → v.stage ≡ Awake → made.word ≡ news_word p → r ≡ 0 → new.0 ≡ Sleeping (clearing p v)

-- arm: an awake sleeper stores 1 as the state
abbrev pub wants_stored : Made → Seated → ℕ → Seated → Type 0
wants_stored made old r new = (v : SleeperView) → old.0 ≡ Sleeping v → v.stage ≡ Awake → made.word ≡ 0 → r ≡ 1 → new.0 ≡ Sleeping (arming v)

-- check: an arming sleeper loads the news of the next ringer
abbrev pub news_loaded : Made → Seated → ℕ → Seated → Type 0
news_loaded made old r new = (v : SleeperView) → old.0 ≡ Sleeping v → v.stage ≡ Arming → made.word ≡ news_word v.found → new.0 ≡ Sleeping (hearing r v)

-- recheck: a sleeper that is asleep loads the state
abbrev pub state_loaded : Made → Seated → ℕ → Seated → Type 0
state_loaded made old r new = (v : SleeperView) → old.0 ≡ Sleeping v → v.stage ≡ Asleep → made.word ≡ 0 → new.0 ≡ Sleeping (looking r v)

-- wake: a sleeper that gives up or found itself rung stores 0 as the state
abbrev pub awake_stored : Made → Seated → ℕ → Seated → Type 0
awake_stored made old r new = (v : SleeperView) → old.0 ≡ Sleeping v → (v.stage ≡ GivingUp) ⊎ (v.stage ≡ Rung) → made.word ≡ 0 → r ≡ 0 → new.0 ≡ Sleeping (waking v)
