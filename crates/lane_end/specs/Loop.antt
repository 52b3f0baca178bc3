-- A lane from a domain to itself, whose two ends are one: what it holds, and where the moves of each of its sides lead.
-- Source: docs/PROFILE.md, "Lanes".
use Rattle.std.specs.Prelude.{ℕ, List, [], ◌++◌}
use Rattle.lane_end.specs.Numbers.{all_numbers}
use Rattle.lane_end.specs.Moves.{Lead}
use Rattle.lane_end.specs.SendMoves.{SendMove}
use Rattle.lane_end.specs.ReceiveMoves.{ReceiveMove}
use Rattle.lane_end.specs.PlainSender.{Sender, MaySend, sender_after}
use Rattle.lane_end.specs.PlainReceiver.{Receiver, MayReceive, receiver_after}
use Rattle.lane_end.specs.PlainLane.{carriers}

-- the numbers of the free buffers; the frames put and not taken, with their buffers' numbers, and how many of them are
-- shown; the numbers taken and not given back; and those given back and not shown
pub record Loop : Type 0 where
  pub size : ℕ
  pub free : List ℕ
  pub frames : List (ℕ × List ℕ)
  pub shown : ℕ
  pub out : List ℕ
  pub back : List ℕ

abbrev pub new_loop : ℕ → Loop
new_loop size = record { size = size; free = all_numbers size; frames = []; shown = 0; out = []; back = [] }

-- its sides are a sender and a receiver that share the frames and the buffers given back, so the next look shows all of
-- them
abbrev pub sending_side : Loop → Sender
sending_side l = record { size = l.size; free = l.free; put = l.frames; back = l.back }

abbrev pub receiving_side : Loop → Receiver
receiving_side l = record { size = l.size; came = l.frames; shown = l.shown; out = l.out; given = l.back }

-- the lane with one side changed
abbrev pub with_sending : Loop → Sender → Loop
with_sending l s = record l { free = s.free; frames = s.put; back = s.back }

abbrev pub with_receiving : Loop → Receiver → Loop
with_receiving l r = record l { frames = r.came; shown = r.shown; out = r.out; back = r.given }

abbrev pub MayLoopSend : Loop → SendMove → Type 0
MayLoopSend l m = MaySend (sending_side l) m

abbrev pub loop_after_send : Loop → SendMove → Loop
loop_after_send l m = with_sending l (sender_after (sending_side l) m)

abbrev pub MayLoopReceive : Loop → ReceiveMove → Type 0
MayLoopReceive l m = MayReceive (receiving_side l) m

abbrev pub loop_after_receive : Loop → ReceiveMove → Loop
loop_after_receive l m = with_receiving l (receiver_after (receiving_side l) m)

abbrev pub LoopSends : Loop → List SendMove → Loop → Type 0
LoopSends old moves new = Lead MayLoopSend loop_after_send old moves new

abbrev pub LoopReceives : Loop → List ReceiveMove → Loop → Type 0
LoopReceives old moves new = Lead MayLoopReceive loop_after_receive old moves new

-- the numbers of all its buffers
abbrev pub loop_numbers : Loop → List ℕ
loop_numbers l = l.free ++ (carriers l.frames ++ (l.out ++ l.back))
