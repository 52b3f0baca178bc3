-- The law of channels: what holds of each channel on every run of a board of linked domains. Nothing is said about the order in time of
-- two lanes.
-- Source: docs/PROMISES.md, "Channels".
use Rattle.std.specs.Prelude.{◌≡◌, ◌⊎◌, ℕ, ◌++◌, List, [], false, ◌==◌, Contains}
use Rattle.std.specs.List.{AllByRecursion}
use Rattle.board_model.specs.declared.scenario.Scenario.{Scenario}
use Rattle.board_model.specs.LinkedBoard.{IsLinkedBoard}
use Rattle.board_model.specs.Board.{DomainJournal, IsBoardRun}
use Rattle.board_model.specs.Channels.{items_accepted, items_taken, items_left, domains_named, taken_on, ItemsArrive, DroppedOrQueued}

pub record ChannelKept (s : Scenario) (js : List DomainJournal) (owner number : ℕ) : Type 0 where
  -- what was accepted is what was taken, followed by what is left
  pub kept : items_accepted s js owner number ≡ items_taken s js owner number ++ items_left s js owner number
  pub arrive : ItemsArrive s js owner number
  pub dropped_or_queued : DroppedOrQueued s js owner number

abbrev pub EveryChannelIsKept : Type 0
EveryChannelIsKept = (s : Scenario) (js : List DomainJournal) → IsLinkedBoard s → IsBoardRun s js → (owner number : ℕ) → ChannelKept s js owner number

-- no other domain than this one takes items of the channel
abbrev pub TakenAt : Scenario → List DomainJournal → ℕ → ℕ → ℕ → Type 0
TakenAt s js owner number q = AllByRecursion (λ j. (j.line.domain == q) ≡ false → taken_on s owner number j ≡ []) js

-- the items are taken at one domain, which the owner's connect with the number named, or at none
abbrev pub EndsWhereNamed : Scenario → List DomainJournal → ℕ → ℕ → Type 0
EndsWhereNamed s js owner number = (items_taken s js owner number ≡ []) ⊎ ((q : ℕ) × Contains (domains_named s js owner number) q × TakenAt s js owner number q)

abbrev pub ChannelsEndWhereNamed : Type 0
ChannelsEndWhereNamed = (s : Scenario) (js : List DomainJournal) → IsLinkedBoard s → IsBoardRun s js → (owner number : ℕ) → EndsWhereNamed s js owner number
