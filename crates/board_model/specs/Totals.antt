-- How many items of each channel, and how many messages, were accepted, taken and dropped, and are queued and in the ring.
-- Source: docs/FORMATS.md, "Report".
use Rattle.std.specs.Prelude.{ℕ, zero, suc, List, [], ◌∷◌, ◌++◌, map, length}
use Rattle.std.specs.List.{flat_map}
use Rattle.board_model.specs.declared.totals.Totals.{Totals}
use Rattle.board_model.specs.declared.totals.ChannelTotals.{ChannelTotals}
use Rattle.board_model.specs.declared.scenario.Scenario.{Scenario}
use Rattle.board_model.specs.Board.{DomainJournal}
use Rattle.board_model.specs.JournalDeeds.{left_in}
use Rattle.board_model.specs.Channels.{items_accepted, items_taken, items_dropped, items_queued, items_in_ring}
use Rattle.board_model.specs.Messages.{accepted, messages_queued, messages_in_ring}
use Rattle.board_model.specs.Drops.{dropped}
use Rattle.board_model.specs.Takings.{messages_taken}

-- ---- the channels that a domain numbered, from 1 on, and what became of their items

abbrev pub numbers_to : ℕ → List ℕ
numbers_to zero = []
numbers_to (suc n) = numbers_to n ++ suc n ∷ []

abbrev pub item_totals : Scenario → List DomainJournal → ℕ → ℕ → Totals
item_totals s js owner number = record { accepted = length (items_accepted s js owner number); taken = length (items_taken s js owner number); dropped = length (items_dropped s js owner number); queued = length (items_queued s js owner number); ring = length (items_in_ring s js owner number) }

abbrev pub totals_of_channel : Scenario → List DomainJournal → ℕ → ℕ → ChannelTotals
totals_of_channel s js owner number = record { owner = owner; number = number; totals = item_totals s js owner number }

abbrev pub totals_of_owner : Scenario → List DomainJournal → DomainJournal → List ChannelTotals
totals_of_owner s js j = map (totals_of_channel s js j.line.domain) (numbers_to (left_in s j).channels_given)

-- by domain, and then by number
abbrev pub channel_totals : Scenario → List DomainJournal → List ChannelTotals
channel_totals s js = flat_map (totals_of_owner s js) js

-- ---- messages

abbrev pub totals : Scenario → List DomainJournal → Totals
totals s js = record { accepted = length (accepted s js); taken = length (messages_taken s js); dropped = length (dropped s js); queued = length (messages_queued s js); ring = length (messages_in_ring s js) }
