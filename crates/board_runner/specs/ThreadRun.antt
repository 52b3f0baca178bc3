-- What a run on threads leaves: whole journals that are a run of the board, their numbers, and the rings.
-- Source: docs/PROFILE.md, "Runs" and "Lanes", and docs/FORMATS.md, "Report".
use Rattle.std.specs.Prelude.{◌≡◌, ◌+◌, ◌%◌, ◌^◌, List, [], ◌∷◌, length, sum}
use Rattle.shared_words.specs.Shown.{TableShown}
use Rattle.shared_words.specs.declared.view.Role.{Role}
use Rattle.shared_words.specs.declared.view.Role.TheVariants.{Driver, Device}
use Rattle.split_ring.specs.Ends.{End}
use Rattle.split_ring.specs.Finished.{FinishedRing, IsFinished}
use Rattle.ring_trace.specs.SoundImages.{ReturnsAreEmpty}
use Rattle.ring_trace.specs.WordImage.{word_image}
use Rattle.ring_numbers.specs.BoardRings.{ring_left}
use Rattle.ring_numbers.specs.InTime.{AreInTime}
use Rattle.lane_end.specs.LaneRun.{in_ring, coming_back, with_sender, with_receiver, sender_looks, sender_saw, receiver_looks, receiver_saw}
use Rattle.lane_images.specs.LaneImages.{queue_of}
use Rattle.board_model.specs.declared.scenario.LinkLine.{LinkLine}
use Rattle.board_model.specs.declared.scenario.Scenario.{Scenario}
use Rattle.board_model.specs.Scenario.{Lane}
use Rattle.board_model.specs.Traffic.{back_looks}
use Rattle.board_model.specs.Board.{DomainJournal, journal_of, IsBoardRun, AreWhole}
use Rattle.board_model.specs.Places.{places_of}
use Rattle.board_runner.specs.declared.outcome.Outcome.{Outcome}
use Rattle.board_runner.specs.Looks.{see_looks}
use Rattle.board_runner.specs.Outcome.{IsOutcome}

-- two halves of a ring finished it so: its words and its lists are those of what they wrote and took. In queue 1, whose buffers the
-- device reads, each was returned with a length of 0
pub record WasFinished (closed : FinishedRing) : Type 0 where
  pub ring : TableShown
  pub driver : End
  pub device : End
  pub finished : IsFinished ring driver device closed
  pub empty : ReturnsAreEmpty closed.queue device.written

-- the finished ring of a lane and the journals of its two domains tell the same: its image, where its buffers are, and the looks of both ends,
-- those that showed nothing among them
pub record TellsLane (s : Scenario) (js : List DomainJournal) (sender : Role) (l : Lane) (closed : FinishedRing) : Type 0 where
  pub finished : WasFinished closed
  pub queue : closed.queue ≡ queue_of sender
  pub size : closed.size ≡ l.size
  pub image : word_image closed.size closed.words ≡ ring_left s js closed.queue l.sender l.receiver l.size
  pub free : (places_of s js l).free ≡ length (with_sender sender closed) + length (coming_back sender closed)
  pub ring : (places_of s js l).ring ≡ length (in_ring sender closed)
  pub held : (places_of s js l).queue + (places_of s js l).lent ≡ length (with_receiver sender closed)
  pub back_looks_made : sender_looks sender closed ≡ length (back_looks l.receiver (journal_of l.sender js)) % 2 ^ 64
  pub back_looks_saw : sender_saw sender closed ≡ sum (back_looks l.receiver (journal_of l.sender js)) % 2 ^ 64
  pub see_looks_made : receiver_looks sender closed ≡ length (see_looks l.sender (journal_of l.receiver js)) % 2 ^ 64
  pub see_looks_saw : receiver_saw sender closed ≡ sum (see_looks l.sender (journal_of l.receiver js)) % 2 ^ 64

-- the two lanes of a link
abbrev pub to_driver : LinkLine → Lane
to_driver l = record { sender = l.device; receiver = l.driver; size = l.size }

abbrev pub to_device : LinkLine → Lane
to_device l = record { sender = l.driver; receiver = l.device; size = l.size }

-- the rings of all links in their order: queue 0 and then queue 1 of each
abbrev pub TellLanes : Scenario → List DomainJournal → List LinkLine → List FinishedRing → Type 0
TellLanes s js [] [] = Unit {0}
TellLanes s js (l ∷ ls) (zero ∷ (one ∷ rings)) = TellsLane s js Device (to_driver l) zero × TellsLane s js Driver (to_device l) one × TellLanes s js ls rings
TellLanes s js ls rings = ⊥

pub record IsThreadRun (s : Scenario) (o : Outcome) : Type 0 where
  pub journals : List DomainJournal
  pub run : IsBoardRun s journals
  pub whole : AreWhole s journals
  pub tells : IsOutcome s o journals
  pub rings : TellLanes s journals s.links o.rings
  -- no buffer came back before the frame was put that it carried, on the own lanes of domains neither
  pub in_time : AreInTime s journals
