-- What events need of others: a frame is put before it is taken, and a buffer is given back before it comes back.
-- Source: docs/FORMATS.md, "Journal text".
use Rattle.std.specs.Prelude.{◌≤◌, ◌<◌, ◌+◌, ◌==◌, ℕ, List, if◌then◌else◌, sum_by, take}
use Rattle.mc_base.specs.Limits.{domain_limit}
use Rattle.event_order.specs.declared.event.Event.{Event}
use Rattle.event_order.specs.declared.event.What.{What}
use Rattle.event_order.specs.declared.event.What.TheVariants.{Put, Take, Give, Back}
use Rattle.event_order.specs.declared.causes.Cause.{Cause}
use Rattle.event_order.specs.declared.causes.Cause.TheVariants.{Frames, Buffers}
use Rattle.event_order.specs.declared.causes.Lane.{Lane}

abbrev pub put_to : ℕ → What → ℕ
put_to p (Put peer) = if peer == p then 1 else 0
put_to p other = 0

abbrev pub taken_from : ℕ → What → ℕ
taken_from p (Take peer) = if peer == p then 1 else 0
taken_from p other = 0

abbrev pub given_to : ℕ → What → ℕ
given_to p (Give peer count) = if peer == p then count else 0
given_to p other = 0

abbrev pub back_from : ℕ → What → ℕ
back_from p (Back peer count) = if peer == p then count else 0
back_from p other = 0

-- what an event adds to a lane: a frame that its sender puts, or buffers that its receiver gives back
abbrev pub gained : Cause → Lane → Event → ℕ
gained Frames l e = if e.domain == l.sender then put_to l.receiver e.what else 0
gained Buffers l e = if e.domain == l.receiver then given_to l.sender e.what else 0

-- what an event takes off a lane: a frame that its receiver takes, or buffers that come back to its sender
abbrev pub lost : Cause → Lane → Event → ℕ
lost Frames l e = if e.domain == l.receiver then taken_from l.sender e.what else 0
lost Buffers l e = if e.domain == l.sender then back_from l.receiver e.what else 0

-- up to each point, no more was taken off a lane than was added: the n-th take comes after the n-th put
abbrev pub IsBacked : Cause → Lane → List Event → Type 0
IsBacked c l es = (k : ℕ) → sum_by (lost c l) (take k es) ≤ sum_by (gained c l) (take k es)

-- the event at this place is the first with which more was taken off a lane than was added
pub record IsOverdrawn (c : Cause) (l : Lane) (es : List Event) (p : ℕ) : Type 0 where
  pub before : (k : ℕ) → k ≤ p → sum_by (lost c l) (take k es) ≤ sum_by (gained c l) (take k es)
  pub with_it : sum_by (gained c l) (take (p + 1) es) < sum_by (lost c l) (take (p + 1) es)

abbrev pub AreBackedFrom : Cause → ℕ → List Event → Type 0
AreBackedFrom c p es = (q : ℕ) → q < domain_limit → IsBacked c (record { sender = p; receiver = q }) es

abbrev pub AreBacked : Cause → List Event → Type 0
AreBacked c es = (p : ℕ) → p < domain_limit → AreBackedFrom c p es

-- the event at this place is the first with which more was taken off some lane than was added
pub record IsUnbacked (c : Cause) (es : List Event) (p : ℕ) : Type 0 where
  pub sender : ℕ
  pub receiver : ℕ
  pub is_sender : sender < domain_limit
  pub is_receiver : receiver < domain_limit
  pub overdrawn : IsOverdrawn c (record { sender = sender; receiver = receiver }) es p
