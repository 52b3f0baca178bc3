-- Where the buffers of a lane are: free, in the ring, queued or lent.
-- Source: docs/PROFILE.md, "Lanes".
use Rattle.std.specs.Prelude.{◌≡◌, ℕ, ◌+◌, ◌-◌, ◌==◌, length, sum, find, List, Option, None, Some}
use Rattle.board_model.specs.declared.totals.LanePlaces.{LanePlaces}
use Rattle.board_model.specs.declared.scenario.Scenario.{Scenario}
use Rattle.board_model.specs.Scenario.{Lane}
use Rattle.board_model.specs.State.{DomainState, free_to, queued_from, lent_from}
use Rattle.board_model.specs.Traffic.{put_to, taken_from, back_looks}
use Rattle.board_model.specs.Run.{left_by}
use Rattle.board_model.specs.Board.{DomainJournal, journal_of, given_back}

-- a count in the state that a domain is left in
abbrev pub in_last_state : Scenario → (DomainState → ℕ) → Option DomainJournal → ℕ
in_last_state s f None = 0
in_last_state s f (Some j) = f (left_by s j.line j.entries).state

abbrev pub at_end : Scenario → List DomainJournal → ℕ → (DomainState → ℕ) → ℕ
at_end s js d f = in_last_state s f (find (λ j. j.line.domain == d) js)

-- free: the sender's free buffers, and those given back that no look has shown yet; ring: the frames put and not taken; queue and
-- lent: those of the receiver's items from the sender
abbrev pub places_of : Scenario → List DomainJournal → Lane → LanePlaces
places_of s js l = record {
  from = l.sender;
  to = l.receiver;
  free = at_end s js l.sender (λ st. free_to st l.receiver) + (given_back s js l.receiver l.sender - sum (back_looks l.receiver (journal_of l.sender js)));
  ring = length (put_to l.receiver (journal_of l.sender js)) - length (taken_from l.sender (journal_of l.receiver js));
  queue = at_end s js l.receiver (queued_from l.sender);
  lent = at_end s js l.receiver (lent_from l.sender);
}

-- every buffer of the lane is at one of the four places
abbrev pub EveryBuffer : Scenario → List DomainJournal → Lane → Type 0
EveryBuffer s js l = (places_of s js l).free + (places_of s js l).ring + (places_of s js l).queue + (places_of s js l).lent ≡ l.size
