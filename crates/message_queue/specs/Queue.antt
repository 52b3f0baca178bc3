-- The queue of an endpoint: the buffers that wait there, with their priorities, the oldest first.
-- Source: docs/PROFILE.md, "Messages". Which one a receive takes is told in `board_model`, `Choice`.
use Rattle.std.specs.Prelude.{ℕ, List, [], ◌∷◌, ◌++◌, drop}
use Rattle.mc_base.specs.declared.request.Slot.{Slot}
use Rattle.board_model.specs.Choice.{without_best}

-- a buffer that waits, and its priority
pub record Waiting : Type 0 where
  pub slot : Slot
  pub priority : ℕ

abbrev pub waiting : Slot → ℕ → Waiting
waiting slot priority = record { slot = slot; priority = priority }

-- the buffers that wait, and for how many there is room
pub record Queue : Type 0 where
  pub room : ℕ
  pub waiting : List Waiting

abbrev pub empty_queue : ℕ → Queue
empty_queue room = record { room = room; waiting = [] }

-- one more, last in the queue
abbrev pub pushed : Queue → Waiting → Queue
pushed q w = record q { waiting = q.waiting ++ w ∷ [] }

-- the oldest of the best priority is gone
abbrev pub popped_best : Queue → Queue
popped_best q = record q { waiting = without_best (λ w. w.priority) q.waiting }

-- the oldest is gone
abbrev pub popped_oldest : Queue → Queue
popped_oldest q = record q { waiting = drop 1 q.waiting }
