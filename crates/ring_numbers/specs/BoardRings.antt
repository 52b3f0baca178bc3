-- The image of each ring of a board, by the journals of its run.
-- Source: docs/FORMATS.md, "Ring lines". The driver of a link puts over queue 1, and its device over queue 0. The frames that a domain takes from a
-- peer are those that the peer put, in the same order, so the buffer of a frame is known by its place among either.
use Rattle.std.specs.Prelude.{ℕ, List, [], ◌∷◌, ◌==◌, length, map, find, Option, None, Some, if◌then◌else◌}
use Rattle.std.specs.List.{flat_map}
use Rattle.board_model.specs.declared.scenario.LinkLine.{LinkLine}
use Rattle.board_model.specs.declared.scenario.Scenario.{Scenario}
use Rattle.board_model.specs.Board.{DomainJournal, journal_of}
use Rattle.board_model.specs.Given.{places_given}
use Rattle.board_model.specs.Journal.{PlainEntry, turned, put, again, waits, called, Visit}
use Rattle.board_model.specs.Traffic.{visits_to}
use Rattle.ring_numbers.specs.RingLists.{image_left}
use Rattle.ring_numbers.specs.SenderNumbers.{Numbers, Sending, puts, comes_back, at_start, after_all}

-- what a domain does at its lane to a peer: at a visit buffers come back, and then owed frames are put
abbrev pub put_of : List ℕ → Sending
put_of frame = puts (length frame)

abbrev pub sent_at : Visit → List Sending
sent_at v = comes_back v.back ∷ map put_of v.owed

abbrev pub sent_by : ℕ → PlainEntry → List Sending
sent_by peer (turned visits) = flat_map sent_at (visits_to peer visits)
sent_by peer (put to frame) = if to == peer then put_of frame ∷ [] else []
sent_by peer (again word) = []
sent_by peer (waits k) = []
sent_by peer (called k a) = []

abbrev pub sent_to : ℕ → List PlainEntry → List Sending
sent_to peer entries = flat_map (sent_by peer) entries

-- the places of the frames of a peer whose buffers a domain gives back
abbrev pub places_by : Scenario → Option DomainJournal → ℕ → List ℕ
places_by s None peer = []
places_by s (Some j) peer = places_given s j peer

abbrev pub places_of : Scenario → List DomainJournal → ℕ → ℕ → List ℕ
places_of s js domain peer = places_by s (find (λ j. j.line.domain == domain) js) peer

-- the buffers of the lane between two domains, at the end
abbrev pub numbers_left : Scenario → List DomainJournal → ℕ → ℕ → ℕ → Numbers
numbers_left s js sender receiver size = after_all (at_start size (places_of s js receiver sender)) (sent_to receiver (journal_of sender js))

abbrev pub ring_left : Scenario → List DomainJournal → ℕ → ℕ → ℕ → ℕ → List ℕ
ring_left s js queue sender receiver size = image_left size queue (numbers_left s js sender receiver size).used (places_of s js receiver sender)

-- the image of a queue of a link
abbrev pub image_of_queue : Scenario → List DomainJournal → LinkLine → ℕ → List ℕ
image_of_queue s js l queue = if queue == 0 then ring_left s js 0 l.device l.driver l.size else ring_left s js 1 l.driver l.device l.size
