-- What is left of the ends of a lane over a ring once they are ended: a half of the ring each.
-- Source: docs/PROFILE.md, "Lanes".
use Rattle.std.specs.Prelude.{◌≡◌, ◌+◌, List, length}
use Rattle.shared_words.specs.Shown.{TableShown}
use Rattle.shared_words.specs.Places.{starts_with}
use Rattle.shared_words.specs.declared.view.Role.{Role}
use Rattle.shared_words.specs.declared.view.Role.TheVariants.{Driver, Device}
use Rattle.split_ring.specs.Ends.{End}
use Rattle.split_ring.specs.Finished.{FinishedRing, IsFinished}
use Rattle.lane_end.specs.SendMoves.{SendMove}
use Rattle.lane_end.specs.ReceiveMoves.{ReceiveMove}
use Rattle.lane_end.specs.RingSender.{RingSender, sender_size}
use Rattle.lane_end.specs.RingReceiver.{RingReceiver, given_entries, out_at}
use Rattle.lane_end.specs.RingLane.{IsSender, IsReceiver}
use Rattle.lane_end.specs.AnySender.{AnySends}
use Rattle.lane_end.specs.AnyReceiver.{AnyReceives}
use Rattle.lane_end.specs.declared.any.AnySend.{AnySend}
use Rattle.lane_end.specs.declared.any.AnyRecv.{AnyRecv}
use Rattle.lane_end.specs.declared.any.AnySend.TheVariants as send
use Rattle.lane_end.specs.declared.any.AnyRecv.TheVariants as recv
use Rattle.lane_end.specs.declared.finishing.SendHalf.{SendHalf}
use Rattle.lane_end.specs.declared.finishing.RecvHalf.{RecvHalf}
use Rattle.lane_end.specs.declared.finishing.SendHalf.TheVariants as sent
use Rattle.lane_end.specs.declared.finishing.RecvHalf.TheVariants as received

-- the end is over a ring
abbrev pub IsRingSend : AnySend → Type 0
IsRingSend (send.Plain s) = ⊥
IsRingSend s = Unit {0}

abbrev pub IsRingRecv : AnyRecv → Type 0
IsRingRecv (recv.Plain r) = ⊥
IsRingRecv r = Unit {0}

-- moves keep an end over a ring
pub RingSend-stays : (a b : AnySend) (moves : List SendMove) → IsRingSend a → AnySends a moves b → IsRingSend b
RingSend-stays (send.Plain a) b moves over moved = absurd over
RingSend-stays (send.Driver a) (send.Plain b) moves over moved = absurd moved
RingSend-stays (send.Device a) (send.Plain b) moves over moved = absurd moved
RingSend-stays a (send.Driver b) moves over moved = tt
RingSend-stays a (send.Device b) moves over moved = tt

pub RingRecv-stays : (a b : AnyRecv) (moves : List ReceiveMove) → IsRingRecv a → AnyReceives a moves b → IsRingRecv b
RingRecv-stays (recv.Plain a) b moves over moved = absurd over
RingRecv-stays (recv.Driver a) (recv.Plain b) moves over moved = absurd moved
RingRecv-stays (recv.Device a) (recv.Plain b) moves over moved = absurd moved
RingRecv-stays a (recv.Driver b) moves over moved = tt
RingRecv-stays a (recv.Device b) moves over moved = tt

-- the free buffers of a sender are as many as its half holds
abbrev pub FreeAreHeld : RingSender → Type 0
FreeAreHeld s = length s.free + length s.half.written ≡ starts_with s.role (sender_size s) + length s.half.taken

-- the buffers that are out at a receiver are as many as its half took and did not give back
abbrev pub OutAreHeld : RingReceiver → Type 0
OutAreHeld r = length (out_at r) + length (given_entries r) ≡ length r.half.taken

-- what holds of a sender, and of a receiver, that ended and left this half of its ring
pub record SenderLeaves (role : Role) (s : RingSender) (half : End) : Type 0 where
  pub half_is : half ≡ s.half
  pub role_is : s.role ≡ role
  pub sender : IsSender s
  pub free : FreeAreHeld s

pub record ReceiverLeaves (role : Role) (r : RingReceiver) (half : End) : Type 0 where
  pub half_is : half ≡ r.half
  pub role_is : r.role ≡ role
  pub receiver : IsReceiver r
  pub out : OutAreHeld r

-- the same of an end of any kind. A plain end has no half
abbrev pub SendLeaves : AnySend → SendHalf → Type 0
SendLeaves (send.Driver s) (sent.Driver half) = SenderLeaves Driver s half
SendLeaves (send.Device s) (sent.Device half) = SenderLeaves Device s half
SendLeaves s half = ⊥

abbrev pub RecvLeaves : AnyRecv → RecvHalf → Type 0
RecvLeaves (recv.Driver r) (received.Driver half) = ReceiverLeaves Driver r half
RecvLeaves (recv.Device r) (received.Device half) = ReceiverLeaves Device r half
RecvLeaves r half = ⊥

-- an end made these moves since it was opened, and this half is left of it
pub record HasSent (opened : AnySend) (moves : List SendMove) (half : SendHalf) : Type 0 where
  pub end : AnySend
  pub moved : AnySends opened moves end
  pub leaves : SendLeaves end half

pub record HasReceived (opened : AnyRecv) (moves : List ReceiveMove) (half : RecvHalf) : Type 0 where
  pub end : AnyRecv
  pub moved : AnyReceives opened moves end
  pub leaves : RecvLeaves end half

-- which half sends
abbrev pub sender_of : SendHalf → Role
sender_of (sent.Driver half) = Driver
sender_of (sent.Device half) = Device

-- the two are the halves of one ring: in queue 1 the driver's sends, and in queue 0 the device's
abbrev pub AreHalvesOf : TableShown → SendHalf → RecvHalf → Type 0
AreHalvesOf ring (sent.Driver driver) (received.Device device) = (driver.ring ≡ ring.ring) × (device.ring ≡ ring.ring)
AreHalvesOf ring (sent.Device device) (received.Driver driver) = (driver.ring ≡ ring.ring) × (device.ring ≡ ring.ring)
AreHalvesOf ring half other = ⊥

-- this is left where the ring is finished with the two halves
abbrev pub AreFinished : TableShown → SendHalf → RecvHalf → FinishedRing → Type 0
AreFinished ring (sent.Driver driver) (received.Device device) closed = IsFinished ring driver device closed
AreFinished ring (sent.Device device) (received.Driver driver) closed = IsFinished ring driver device closed
AreFinished ring half other closed = ⊥
