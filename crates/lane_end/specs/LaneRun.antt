-- A lane over a ring from its opening to the end of the ring: what the moves of its two ends and the finished ring have in
-- common. Nothing is said of time: each end's moves are a list of their own.
-- Source: docs/PROFILE.md, "Lanes". The half that sends tells the queue: the driver sends in queue 1, the device in queue 0.
use Rattle.std.specs.Prelude.{◌≡◌, ℕ, ◌+◌, ◌≤◌, ◌%◌, ◌^◌, List, [], ◌∷◌, ◌++◌, length, map, sum}
use Rattle.shared_words.specs.Entry.{IsPrefix}
use Rattle.shared_words.specs.Shown.{TableShown, RingId, size_of}
use Rattle.shared_words.specs.declared.view.Role.{Role}
use Rattle.shared_words.specs.declared.view.Role.TheVariants.{Driver, Device}
use Rattle.split_ring.specs.Finished.{FinishedRing}
use Rattle.lane_end.specs.Numbers.{all_numbers}
use Rattle.lane_end.specs.SendMoves.{SendMove}
use Rattle.lane_end.specs.ReceiveMoves.{ReceiveMove, Looked, Took, Gave}
use Rattle.lane_end.specs.SendParts.{frames_sent, back_counts}
use Rattle.lane_end.specs.ReceiveParts.{frames_taken, numbers_given, see_counts}
use Rattle.lane_end.specs.PlainLane.{carriers}
use Rattle.lane_end.specs.RingSender.{Hand, Deals}
use Rattle.lane_end.specs.RingOpening.{queue1_sender, queue1_receiver, queue0_sender, queue0_receiver}
use Rattle.lane_end.specs.AnySender.{free_of_any}
use Rattle.lane_end.specs.AnyReceiver.{out_of_any}
use Rattle.lane_end.specs.Halves.{SendLeaves, RecvLeaves, HasSent, HasReceived, sender_of, AreHalvesOf}
use Rattle.lane_end.specs.declared.any.AnySend.{AnySend}
use Rattle.lane_end.specs.declared.any.AnyRecv.{AnyRecv}
use Rattle.lane_end.specs.declared.any.AnySend.TheVariants as send
use Rattle.lane_end.specs.declared.any.AnyRecv.TheVariants as recv
use Rattle.lane_end.specs.declared.finishing.SendHalf.{SendHalf}
use Rattle.lane_end.specs.declared.finishing.RecvHalf.{RecvHalf}

-- the ends of the lane when it is opened, by the half that sends
abbrev pub opened_send : Role → RingId → AnySend
opened_send Driver ring = send.Driver (queue1_sender ring)
opened_send Device ring = send.Device (queue0_sender ring)

abbrev pub opened_recv : Role → RingId → AnyRecv
opened_recv Driver ring = recv.Device (queue1_receiver ring)
opened_recv Device ring = recv.Driver (queue0_receiver ring)

-- where the buffers of a finished ring are: on the way to the receiver, on the way back, with the sender and with the receiver
abbrev pub in_ring : Role → FinishedRing → List ℕ
in_ring Driver closed = closed.offered_left
in_ring Device closed = closed.returned_left

abbrev pub coming_back : Role → FinishedRing → List ℕ
coming_back Driver closed = closed.returned_left
coming_back Device closed = closed.offered_left

abbrev pub with_sender : Role → FinishedRing → List ℕ
with_sender Driver closed = closed.driver_held
with_sender Device closed = closed.device_held

abbrev pub with_receiver : Role → FinishedRing → List ℕ
with_receiver Driver closed = closed.device_held
with_receiver Device closed = closed.driver_held

-- the looks of the sender's half and of the receiver's: how many, and what they answered in all
abbrev pub sender_looks : Role → FinishedRing → ℕ
sender_looks Driver closed = closed.driver_looks
sender_looks Device closed = closed.device_looks

abbrev pub sender_saw : Role → FinishedRing → ℕ
sender_saw Driver closed = closed.driver_saw
sender_saw Device closed = closed.device_saw

abbrev pub receiver_looks : Role → FinishedRing → ℕ
receiver_looks Driver closed = closed.device_looks
receiver_looks Device closed = closed.driver_looks

abbrev pub receiver_saw : Role → FinishedRing → ℕ
receiver_saw Driver closed = closed.device_saw
receiver_saw Device closed = closed.driver_saw

-- the frames of loads, without the numbers of their buffers
abbrev pub frames_of : List (ℕ × List ℕ) → List (List ℕ)
frames_of loads = map (λ (l : ℕ × List ℕ). l.1) loads

-- each look showed at most what was ever put, less what was taken before it
abbrev pub SeesAtMost : ℕ → ℕ → List ReceiveMove → Type 0
SeesAtMost put taken [] = Unit {0}
SeesAtMost put taken (Looked n ∷ moves) = (n + taken ≤ put) × SeesAtMost put taken moves
SeesAtMost put taken (Took n frame ∷ moves) = SeesAtMost put (taken + 1) moves
SeesAtMost put taken (Gave n ∷ moves) = SeesAtMost put taken moves

-- all buffers are free, and nothing was done
abbrev pub first_hand : ℕ → Hand
first_hand size = record { free = all_numbers size; sent = []; back = [] }

-- a lane of this size, whose sender and receiver made these moves since it was opened, and its finished ring
pub record IsLaneRun (sender : Role) (size : ℕ) (sends : List SendMove) (receives : List ReceiveMove) (closed : FinishedRing) : Type 0 where
  -- the frames put with the numbers of their buffers, those not taken, the buffers that came back, and those free at the end
  pub puts : List (ℕ × List ℕ)
  pub left : List (ℕ × List ℕ)
  pub back : List ℕ
  pub free : List ℕ
  pub frames : frames_of puts ≡ frames_sent sends
  pub deals : Deals size (first_hand size) sends (record { free = free; sent = carriers puts; back = back })
  -- what is taken is the first of what was put, each frame in its buffer, and the others are in the ring
  pub taken : puts ≡ frames_taken receives ++ left
  pub taken_first : IsPrefix (frames_of (frames_taken receives)) (frames_sent sends)
  pub sees : SeesAtMost (length (frames_sent sends)) 0 receives
  -- what came back is the first of what was given back, and the others are on the way
  pub returned : numbers_given receives ≡ back ++ coming_back sender closed
  pub backs : sum (back_counts sends) ≤ length (numbers_given receives)
  -- the four places
  pub left_numbers : carriers left ≡ in_ring sender closed
  pub ring_count : length (in_ring sender closed) + length (frames_taken receives) ≡ length (frames_sent sends)
  pub back_count : length (coming_back sender closed) + sum (back_counts sends) ≡ length (numbers_given receives)
  pub sender_count : length (with_sender sender closed) + length (frames_sent sends) ≡ size + sum (back_counts sends)
  pub receiver_count : length (with_receiver sender closed) + length (numbers_given receives) ≡ length (frames_taken receives)
  -- the looks, modulo 2^64
  pub back_looks : sender_looks sender closed ≡ length (back_counts sends) % 2 ^ 64
  pub back_saw : sender_saw sender closed ≡ sum (back_counts sends) % 2 ^ 64
  pub see_looks : receiver_looks sender closed ≡ length (see_counts receives) % 2 ^ 64
  pub see_saw : receiver_saw sender closed ≡ sum (see_counts receives) % 2 ^ 64

-- the ends of a lane over this ring made these moves since it was opened, and these halves are left of them
pub record HaveRun (sender : Role) (ring : TableShown) (sends : List SendMove) (receives : List ReceiveMove) (send : SendHalf) (recv : RecvHalf) : Type 0 where
  pub sent : HasSent (opened_send sender ring.ring) sends send
  pub received : HasReceived (opened_recv sender ring.ring) receives recv

-- such halves are those of this ring, and it can be finished
abbrev pub RunsLeaveHalves : Type 0
RunsLeaveHalves = (sender : Role) (ring : TableShown) (sends : List SendMove) (receives : List ReceiveMove) (send : SendHalf) (recv : RecvHalf) → HaveRun sender ring sends receives send recv → AreHalvesOf ring send recv

-- whatever moves left these halves, they and the finished ring are such a run
abbrev pub AreLaneRuns : TableShown → SendHalf → RecvHalf → FinishedRing → Type 0
AreLaneRuns ring send recv closed = (sender : Role) (sends : List SendMove) (receives : List ReceiveMove) → HaveRun sender ring sends receives send recv → IsLaneRun sender (size_of ring.ring) sends receives closed

-- whatever ends left these halves: the buffers that were free are with the sender, and those that were out with the receiver
pub record HeldByEnds (send : SendHalf) (recv : RecvHalf) (closed : FinishedRing) : Type 0 where
  pub free : (s : AnySend) → SendLeaves s send → length (with_sender (sender_of send) closed) ≡ length (free_of_any s)
  pub out : (r : AnyRecv) → RecvLeaves r recv → length (with_receiver (sender_of send) closed) ≡ length (out_of_any r)
