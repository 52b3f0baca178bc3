-- The two ends of a lane over one ring, as ends of any kind.
-- Source: docs/PROFILE.md, "Lanes".
use Rattle.lane_end.specs.RingLane.{AreOfOneRing, HaveMet}
use Rattle.lane_end.specs.declared.any.AnySend.{AnySend}
use Rattle.lane_end.specs.declared.any.AnyRecv.{AnyRecv}
use Rattle.lane_end.specs.declared.any.AnySend.TheVariants as send
use Rattle.lane_end.specs.declared.any.AnyRecv.TheVariants as recv

-- the two are ends of one ring, of queue 1 or of queue 0
abbrev pub AreEndsOfOneRing : AnySend → AnyRecv → Type 0
AreEndsOfOneRing (send.Driver s) (recv.Device r) = AreOfOneRing s r
AreEndsOfOneRing (send.Device s) (recv.Driver r) = AreOfOneRing s r
AreEndsOfOneRing s r = ⊥

-- after a meeting the two ends are these
abbrev pub EndsHaveMet : AnySend → AnyRecv → AnySend → AnyRecv → Type 0
EndsHaveMet (send.Driver s) (recv.Device r) (send.Driver sender) (recv.Device receiver) = HaveMet s r sender receiver
EndsHaveMet (send.Device s) (recv.Driver r) (send.Device sender) (recv.Driver receiver) = HaveMet s r sender receiver
EndsHaveMet s r sender receiver = ⊥
