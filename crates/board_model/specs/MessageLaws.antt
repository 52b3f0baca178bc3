-- The laws of messages: what holds of the journals of every run of a domain, and of a board of linked domains.
-- Source: docs/PROMISES.md, "Messages".
use Rattle.std.specs.Prelude.{List}
use Rattle.std.specs.List.{AllByRecursion}
use Rattle.board_model.specs.declared.scenario.Scenario.{Scenario}
use Rattle.board_model.specs.LinkedBoard.{IsLinkedBoard}
use Rattle.board_model.specs.Run.{IsDomainRun}
use Rattle.board_model.specs.Board.{DomainJournal, IsBoardRun}
use Rattle.board_model.specs.MessageOrder.{ReceivesBest, TestsTellTaken, DeletesTellDropped, AvailableTellQueued, CancelledTookNothing}
use Rattle.board_model.specs.Replied.{TestsTellSaid, LookupsTellHad}
use Rattle.board_model.specs.Headline.{NoMessageLost}

-- each message receive takes the oldest queued message of the best priority, or, where none is queued, the message that comes in that
-- moment; and one that answers returns the size and the first bytes of what it took
abbrev pub ReceivesTakeTheBest : Type 0
ReceivesTakeTheBest = (s : Scenario) (j : DomainJournal) → IsLinkedBoard s → IsDomainRun s j.line j.entries → ReceivesBest s j

-- each test answers as the kind of its request requires, and for a request for a message by what it took: one message, of which it
-- returns the size and the first bytes, or none
abbrev pub TestsTellWhatWasTaken : Type 0
TestsTellWhatWasTaken = (s : Scenario) (j : DomainJournal) → IsLinkedBoard s → IsDomainRun s j.line j.entries → TestsTellTaken s j

-- a test or a wait that returns an address for a lookup returns one that was said of the name: by the domain itself, which gave it to an
-- endpoint that it made under the name, or by a frame that it took from the name's domain. One that returns a reply to a request to connect
-- returns one that it took from the channel's peer
abbrev pub TestsTellWhatWasSaid : Type 0
TestsTellWhatWasSaid = (s : Scenario) (j : DomainJournal) → IsLinkedBoard s → IsDomainRun s j.line j.entries → TestsTellSaid s j

-- on a board of linked domains, the address that a test or a wait returns of a lookup is one that the domain of the name gave an endpoint
-- which it made under the name
abbrev pub LookupsTellWhatWasHad : Type 0
LookupsTellWhatWasHad = (s : Scenario) (js : List DomainJournal) → IsLinkedBoard s → IsBoardRun s js → AllByRecursion (LookupsTellHad s js) js

-- the number of available messages is that of those which are queued
abbrev pub AvailableTellsWhatIsQueued : Type 0
AvailableTellsWhatIsQueued = (s : Scenario) (j : DomainJournal) → IsLinkedBoard s → IsDomainRun s j.line j.entries → AvailableTellQueued s j

-- each delete answers how many messages it dropped
abbrev pub DeletesTellWhatWasDropped : Type 0
DeletesTellWhatWasDropped = (s : Scenario) (j : DomainJournal) → IsLinkedBoard s → IsDomainRun s j.line j.entries → DeletesTellDropped s j

-- a request that was cancelled took nothing
abbrev pub CancelledRequestsTookNothing : Type 0
CancelledRequestsTookNothing = (s : Scenario) (j : DomainJournal) → IsLinkedBoard s → IsDomainRun s j.line j.entries → CancelledTookNothing s j

-- each message that was accepted was taken or dropped, or is queued or in the ring, each as often
abbrev pub NoMessageIsLost : Type 0
NoMessageIsLost = (s : Scenario) (js : List DomainJournal) → IsLinkedBoard s → IsBoardRun s js → NoMessageLost s js
