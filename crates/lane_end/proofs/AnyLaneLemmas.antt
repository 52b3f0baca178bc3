-- The ends of one ring stay so, as ends of any kind.
use Rattle.std.proofs.Common.{List, ap, sym, ◌∙◌}
use Rattle.shared_words.specs.Way.{other}
use Rattle.lane_end.specs.SendMoves.{SendMove}
use Rattle.lane_end.specs.ReceiveMoves.{ReceiveMove}
use Rattle.lane_end.specs.RingSender.{RingSender, RingSends}
use Rattle.lane_end.specs.RingReceiver.{RingReceiver, RingReceives}
use Rattle.lane_end.specs.RingLane.{AreOfOneRing}
use Rattle.lane_end.specs.AnySender.{AnySends}
use Rattle.lane_end.specs.AnyReceiver.{AnyReceives}
use Rattle.lane_end.specs.AnyLane.{AreEndsOfOneRing}
use Rattle.lane_end.specs.declared.any.AnySend.{AnySend}
use Rattle.lane_end.specs.declared.any.AnyRecv.{AnyRecv}
use Rattle.lane_end.specs.declared.any.AnySend.TheVariants as send
use Rattle.lane_end.specs.declared.any.AnyRecv.TheVariants as recv

stays : (a b : RingSender) (c d : RingReceiver) (xs : List SendMove) (ys : List ReceiveMove) → AreOfOneRing a c → RingSends a xs b → RingReceives c ys d → AreOfOneRing b d
stays a b c d xs ys one s r = record { ring = r.ring ∙ (one.ring ∙ sym s.ring); role = r.role ∙ (one.role ∙ sym (ap other s.role)) }

pub ends-stay : (a b : AnySend) (c d : AnyRecv) (xs : List SendMove) (ys : List ReceiveMove) → AreEndsOfOneRing a c → AnySends a xs b → AnyReceives c ys d → AreEndsOfOneRing b d
ends-stay (send.Driver a) (send.Driver b) (recv.Device c) (recv.Device d) xs ys one s r = stays a b c d xs ys one s r
ends-stay (send.Device a) (send.Device b) (recv.Driver c) (recv.Driver d) xs ys one s r = stays a b c d xs ys one s r
ends-stay (send.Plain a) b c d xs ys one s r = absurd one
ends-stay (send.Driver a) b (recv.Plain c) d xs ys one s r = absurd one
ends-stay (send.Driver a) b (recv.Driver c) d xs ys one s r = absurd one
ends-stay (send.Device a) b (recv.Plain c) d xs ys one s r = absurd one
ends-stay (send.Device a) b (recv.Device c) d xs ys one s r = absurd one
ends-stay (send.Driver a) (send.Plain b) (recv.Device c) d xs ys one s r = absurd s
ends-stay (send.Driver a) (send.Device b) (recv.Device c) d xs ys one s r = absurd s
ends-stay (send.Driver a) (send.Driver b) (recv.Device c) (recv.Plain d) xs ys one s r = absurd r
ends-stay (send.Driver a) (send.Driver b) (recv.Device c) (recv.Driver d) xs ys one s r = absurd r
ends-stay (send.Device a) (send.Plain b) (recv.Driver c) d xs ys one s r = absurd s
ends-stay (send.Device a) (send.Driver b) (recv.Driver c) d xs ys one s r = absurd s
ends-stay (send.Device a) (send.Device b) (recv.Driver c) (recv.Plain d) xs ys one s r = absurd r
ends-stay (send.Device a) (send.Device b) (recv.Driver c) (recv.Device d) xs ys one s r = absurd r
