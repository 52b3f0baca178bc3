-- Whether buffers come back to a sender only after the frames were put that they carried.
-- Source: docs/PROFILE.md, "Lanes"; docs/FORMATS.md, "How a report is checked". Which these are is known by the places of the frames, counted
-- from 0 among those that were put. Of lanes without rings this is asked too, those of domains to themselves.
use Rattle.std.specs.Prelude.{ℕ, ◌+◌, ◌<◌, List, [], ◌∷◌, take, drop}
use Rattle.std.specs.List.{AllByRecursion}
use Rattle.board_model.specs.declared.scenario.Scenario.{Scenario}
use Rattle.board_model.specs.Scenario.{Lane, lanes}
use Rattle.board_model.specs.Board.{DomainJournal, journal_of}
use Rattle.ring_numbers.specs.BoardRings.{places_of, sent_to}
use Rattle.ring_numbers.specs.SenderNumbers.{Sending, puts, comes_back}

-- these are the places of the frames whose buffers are given back and did not come back yet, and so many frames were put
abbrev pub ComeBackLater : List ℕ → ℕ → List Sending → Type 0
ComeBackLater given put [] = Unit {0}
ComeBackLater given put (puts bytes ∷ es) = ComeBackLater given (put + 1) es
ComeBackLater given put (comes_back n ∷ es) = AllByRecursion (λ place. place < put) (take n given) × ComeBackLater (drop n given) put es

-- over the lane between two domains
abbrev pub IsInTime : Scenario → List DomainJournal → Lane → Type 0
IsInTime s js l = ComeBackLater (places_of s js l.receiver l.sender) 0 (sent_to l.receiver (journal_of l.sender js))

abbrev pub AreInTime : Scenario → List DomainJournal → Type 0
AreInTime s js = AllByRecursion (IsInTime s js) (lanes s)
