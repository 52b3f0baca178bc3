-- The headline: what holds of the journals of every board run.
-- Source: docs/PROMISES.md: each channel's receiver took a prefix of what its sender had accepted, item for item; each
-- message receive took the oldest of the best priority queued; a cancelled receive took nothing; taken and left together
-- are exactly what was accepted; and every buffer is free, in the ring, queued or lent.
use Rattle.std.specs.Prelude.{◌≡◌, ℕ, ◌+◌, Bool, ◌++◌, List, count_by}
use Rattle.std.specs.List.{AllByRecursion}
use Rattle.board_model.specs.declared.scenario.Scenario.{Scenario}
use Rattle.board_model.specs.Lists.{IsPrefix}
use Rattle.board_model.specs.Scenario.{lanes}
use Rattle.board_model.specs.Board.{DomainJournal}
use Rattle.board_model.specs.Channels.{items_accepted, items_taken, items_left, ItemsArrive, DroppedOrQueued, ClosesTellDropped}
use Rattle.board_model.specs.Messages.{Message, accepted, messages_queued, messages_in_ring}
use Rattle.board_model.specs.Drops.{dropped}
use Rattle.board_model.specs.Takings.{messages_taken}
use Rattle.board_model.specs.MessageOrder.{ReceivesBest, TestsTellTaken, DeletesTellDropped, AvailableTellQueued, CancelledTookNothing}
use Rattle.board_model.specs.Replied.{TestsTellSaid, LookupsTellHad}
use Rattle.board_model.specs.Places.{EveryBuffer}

-- each message that was accepted was taken or dropped, or is queued or in the ring, each as often as it was accepted: any test
-- passes as many of the former as of the latter
abbrev pub NoMessageLost : Scenario → List DomainJournal → Type 0
NoMessageLost s js = (test : Message → Bool) → count_by test (accepted s js) ≡ count_by test (messages_taken s js) + count_by test (dropped s js) + count_by test (messages_queued s js) + count_by test (messages_in_ring s js)

pub record Headline (s : Scenario) (js : List DomainJournal) : Type 0 where
  pub channel_prefix : (sender channel : ℕ) → IsPrefix (items_taken s js sender channel) (items_accepted s js sender channel)
  pub best_first : AllByRecursion (ReceivesBest s) js
  -- the test of a request to receive returns what the request took
  pub tests_tell_taken : AllByRecursion (TestsTellTaken s) js
  -- the test of a lookup returns an address that was said of the name, and that of a request to connect the reply that came
  pub tests_tell_said : AllByRecursion (TestsTellSaid s) js
  -- that address is one that the name's domain gave an endpoint of the name
  pub lookups_tell_had : AllByRecursion (LookupsTellHad s js) js
  -- the number of available messages is that of those which are queued
  pub available_tell_queued : AllByRecursion (AvailableTellQueued s) js
  -- a delete answers how many messages it dropped
  pub deletes_tell_dropped : AllByRecursion (DeletesTellDropped s) js
  pub cancelled_nothing : AllByRecursion (CancelledTookNothing s) js
  -- a receiver's close answers how many items of its channel it dropped
  pub closes_tell_dropped : AllByRecursion (ClosesTellDropped s) js
  pub items_kept : (sender channel : ℕ) → items_accepted s js sender channel ≡ items_taken s js sender channel ++ items_left s js sender channel
  -- each item that was accepted is queued, handed or dropped by its receiver, as soon as its frame is taken
  pub items_arrive : (sender channel : ℕ) → ItemsArrive s js sender channel
  pub dropped_or_queued : (sender channel : ℕ) → DroppedOrQueued s js sender channel
  pub messages_kept : NoMessageLost s js
  pub buffers_kept : AllByRecursion (EveryBuffer s js) (lanes s)
