-- The moves of an end keep the lane's size.
-- Source: docs/PROFILE.md, "Lanes".
use Rattle.std.specs.Prelude.{◌≡◌, List, refl}
use Rattle.lane_end.specs.MoveLaws.{Lead-keeps}
use Rattle.lane_end.specs.SendMoves.{SendMove, Looked, Sent}
use Rattle.lane_end.specs.ReceiveMoves as receiving
use Rattle.lane_end.specs.PlainSender.{Sender, MaySend, sender_after, Sends}
use Rattle.lane_end.specs.PlainReceiver.{Receiver, MayReceive, receiver_after, Receives}
use Rattle.lane_end.specs.Loop.{Loop, MayLoopSend, loop_after_send, MayLoopReceive, loop_after_receive, LoopSends, LoopReceives}

sender_size : (s : Sender) (m : SendMove) → MaySend s m → (sender_after s m).size ≡ s.size
sender_size s (Looked n) may = refl
sender_size s (Sent frame) may = refl

receiver_size : (r : Receiver) (m : receiving.ReceiveMove) → MayReceive r m → (receiver_after r m).size ≡ r.size
receiver_size r (receiving.Looked n) may = refl
receiver_size r (receiving.Took n frame) may = refl
receiver_size r (receiving.Gave n) may = refl

pub Sends-size : (a b : Sender) (xs : List SendMove) → Sends a xs b → b.size ≡ a.size
Sends-size a b xs moved = Lead-keeps MaySend sender_after (λ s. s.size) sender_size a b xs moved

pub Receives-size : (a b : Receiver) (xs : List receiving.ReceiveMove) → Receives a xs b → b.size ≡ a.size
Receives-size a b xs moved = Lead-keeps MayReceive receiver_after (λ r. r.size) receiver_size a b xs moved

pub LoopSends-size : (a b : Loop) (xs : List SendMove) → LoopSends a xs b → b.size ≡ a.size
LoopSends-size a b xs moved = Lead-keeps MayLoopSend loop_after_send (λ l. l.size) (λ l m may. refl) a b xs moved

pub LoopReceives-size : (a b : Loop) (xs : List receiving.ReceiveMove) → LoopReceives a xs b → b.size ≡ a.size
LoopReceives-size a b xs moved = Lead-keeps MayLoopReceive loop_after_receive (λ l. l.size) (λ l m may. refl) a b xs moved
