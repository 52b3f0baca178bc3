-- Which word of a bell's table holds what.
-- Source: docs/ARCHITECTURE.md, "Doorbells".
use Rattle.std.specs.Prelude.{◌≡◌, ◌⊎◌, ℕ, ◌+◌, List, slice_index}
use Rattle.door_bell.specs.declared.view.Stage.{Stage}
use Rattle.door_bell.specs.declared.view.Stage.TheVariants.{Awake}

-- one word for the state, and behind it one for the news of each ringer
abbrev pub word_count : ℕ → ℕ
word_count ringers = ringers + 1

-- 0: awake, 1: wants to be woken, 2: rung
abbrev pub state_of : List ℕ → ℕ
state_of words = slice_index words 0

abbrev pub news_word : ℕ → ℕ
news_word p = p + 1

-- 0: none, or cleared
abbrev pub news_of : List ℕ → ℕ → ℕ
news_of words p = slice_index words (news_word p)

-- the state is 0 exactly while the sleeper is awake, and else 1 or 2
abbrev pub StateFits : Stage → ℕ → Type 0
StateFits Awake state = state ≡ 0
StateFits stage state = (state ≡ 1) ⊎ (state ≡ 2)
