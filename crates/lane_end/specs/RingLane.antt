-- The two ends of a lane over one ring, and what holds between them.
-- Source: docs/PROFILE.md, "Lanes".
use Rattle.std.specs.Prelude.{◌≡◌, ◌+◌, ◌≤◌, length, sum}
use Rattle.shared_words.specs.Entry.{IsPrefix}
use Rattle.shared_words.specs.Shown.{TableShown}
use Rattle.shared_words.specs.Way.{other}
use Rattle.shared_words.specs.declared.view.Role.{Role}
use Rattle.shared_words.specs.declared.view.Role.TheVariants.{Driver, Device}
use Rattle.split_ring.specs.Ends.{End, shows}
use Rattle.split_ring.specs.Finished.{FinishedRing, IsFinished}
use Rattle.lane_end.specs.Entries.{numbers_in}
use Rattle.lane_end.specs.Opened.{taken_before, written_before}
use Rattle.lane_end.specs.RingSender.{RingSender, sender_size, put_by, loads_by, back_to, back_known}
use Rattle.lane_end.specs.RingReceiver.{RingReceiver, receiver_size, taken_by, given_entries, come_known}

-- what holds of every sender: it has taken all buffers that its looks showed
abbrev pub IsSender : RingSender → Type 0
IsSender s = sum s.half.looks + taken_before s.role (sender_size s) ≡ length s.half.taken

-- what holds of every receiver: it knows that the frames shown and not taken have come; and its half wrote all that it had to
-- write before the lane was opened
pub record IsReceiver (r : RingReceiver) : Type 0 where
  pub shown : length r.half.taken + r.shown ≤ r.half.shown
  pub opened : written_before r.role (receiver_size r) ≤ length r.half.written

-- the two are ends of one ring
pub record AreOfOneRing (s : RingSender) (r : RingReceiver) : Type 0 where
  pub ring : r.half.ring ≡ s.half.ring
  pub role : r.role ≡ other s.role

-- what is known of the two once they have met, or once the ring is finished
pub record IsRingLane (s : RingSender) (r : RingReceiver) : Type 0 where
  -- the frames taken are a prefix of those put, each in the buffer in which it was put
  pub taken : IsPrefix (taken_by r) (loads_by s)
  -- the buffers that came back are a prefix of those given back
  pub back : IsPrefix (back_to s) (numbers_in (given_entries r))
  -- what is shown was put, and what looks showed to have come back was given back
  pub shown : length (taken_by r) + r.shown ≤ length (loads_by s)
  pub looked : sum s.half.looks ≤ length (given_entries r)

-- a meeting: all that the other end did is known to each, and nothing else changes
abbrev pub sender_met : RingSender → RingReceiver → RingSender
sender_met s r = record s { half = shows (length r.half.written) s.half }

abbrev pub receiver_met : RingSender → RingReceiver → RingReceiver
receiver_met s r = record r { half = shows (length s.half.written) r.half }

pub record HaveMet (s : RingSender) (r : RingReceiver) (sender : RingSender) (receiver : RingReceiver) : Type 0 where
  pub sends : sender ≡ sender_met s r
  pub receives : receiver ≡ receiver_met s r
  -- what each knew before the meeting had been done
  pub come : come_known r ≤ length (put_by s)
  pub back : back_known s ≤ length (given_entries r)
  -- and after it each knows all that was done
  pub all_come : come_known receiver ≡ length (put_by s)
  pub all_back : back_known sender ≡ length (given_entries r)
  pub lane : IsRingLane sender receiver

-- this is left where their ring is finished; the half that sends is the driver's or the device's
abbrev pub IsFinishedBetween : Role → TableShown → End → End → FinishedRing → Type 0
IsFinishedBetween Driver ring sending receiving closed = IsFinished ring sending receiving closed
IsFinishedBetween Device ring sending receiving closed = IsFinished ring receiving sending closed

abbrev pub IsFinishedLane : TableShown → RingSender → RingReceiver → FinishedRing → Type 0
IsFinishedLane ring s r closed = IsFinishedBetween s.role ring s.half r.half closed
