-- The halves that are left of the two ends of a lane, and its finished ring.
use Rattle.std.proofs.Common.{◌≡◌, List, length, refl, ap, sym, ◌∙◌, subst, arith, length-drop}
use Rattle.shared_words.specs.Places.{starts_with}
use Rattle.shared_words.specs.Shown.{TableShown, RingId, size_of}
use Rattle.shared_words.specs.Way.{other}
use Rattle.shared_words.specs.declared.view.Role.{Role}
use Rattle.shared_words.specs.declared.view.Role.TheVariants.{Driver, Device}
use Rattle.split_ring.specs.Ends.{End}
use Rattle.split_ring.specs.Finished.{FinishedRing}
use Rattle.lane_end.specs.SendMoves.{SendMove}
use Rattle.lane_end.specs.ReceiveMoves.{ReceiveMove}
use Rattle.lane_end.specs.Opened.{written_before}
use Rattle.lane_end.specs.RingSender.{RingSender, RingSends}
use Rattle.lane_end.specs.RingReceiver.{RingReceiver, receiver_size, out_at, RingReceives}
use Rattle.lane_end.specs.RingLane.{IsFinishedBetween}
use Rattle.lane_end.specs.AnySender.{free_of_any, AnySends}
use Rattle.lane_end.specs.AnyReceiver.{out_of_any, AnyReceives}
use Rattle.lane_end.specs.Halves.{SenderLeaves, ReceiverLeaves, SendLeaves, RecvLeaves, sender_of, AreHalvesOf, AreFinished}
use Rattle.lane_end.specs.LaneRun.{opened_send, opened_recv, with_sender, with_receiver, AreLaneRuns, HeldByEnds, HaveRun}
use Rattle.lane_end.specs.declared.any.AnySend.{AnySend}
use Rattle.lane_end.specs.declared.any.AnyRecv.{AnyRecv}
use Rattle.lane_end.specs.declared.any.AnySend.TheVariants as send
use Rattle.lane_end.specs.declared.any.AnyRecv.TheVariants as recv
use Rattle.lane_end.specs.declared.finishing.SendHalf.{SendHalf}
use Rattle.lane_end.specs.declared.finishing.RecvHalf.{RecvHalf}
use Rattle.lane_end.specs.declared.finishing.SendHalf.TheVariants as sent
use Rattle.lane_end.specs.declared.finishing.RecvHalf.TheVariants as received
use Rattle.lane_end.proofs.LaneRunLemmas.{sender_opened, receiver_opened, sides, lane-run}
use Rattle.lane_end.proofs.EntryLemmas.{written-start}

abbrev pub end_of_send : SendHalf → End
end_of_send (sent.Driver half) = half
end_of_send (sent.Device half) = half

abbrev pub end_of_recv : RecvHalf → End
end_of_recv (received.Driver half) = half
end_of_recv (received.Device half) = half

abbrev pub receiver_of : RecvHalf → Role
receiver_of (received.Driver half) = Driver
receiver_of (received.Device half) = Device

pub record SentOver (role : Role) (ring : RingId) (moves : List SendMove) (half : SendHalf) : Type 0 where
  pub s : RingSender
  pub moved : RingSends (sender_opened role ring) moves s
  pub leaves : SenderLeaves role s (end_of_send half)
  pub role_is : sender_of half ≡ role

pub sent-over : (role : Role) (ring : RingId) (moves : List SendMove) (end : AnySend) (half : SendHalf) → AnySends (opened_send role ring) moves end → SendLeaves end half → SentOver role ring moves half
sent-over Driver ring moves (send.Driver s) (sent.Driver half) moved leaves = record { s = s; moved = moved; leaves = leaves; role_is = refl }
sent-over Device ring moves (send.Device s) (sent.Device half) moved leaves = record { s = s; moved = moved; leaves = leaves; role_is = refl }
sent-over Driver ring moves (send.Driver s) (sent.Device half) moved leaves = absurd leaves
sent-over Device ring moves (send.Device s) (sent.Driver half) moved leaves = absurd leaves
sent-over Driver ring moves (send.Plain s) half moved leaves = absurd moved
sent-over Driver ring moves (send.Device s) half moved leaves = absurd moved
sent-over Device ring moves (send.Plain s) half moved leaves = absurd moved
sent-over Device ring moves (send.Driver s) half moved leaves = absurd moved

pub record ReceivedOver (role : Role) (ring : RingId) (moves : List ReceiveMove) (half : RecvHalf) : Type 0 where
  pub r : RingReceiver
  pub moved : RingReceives (receiver_opened role ring) moves r
  pub leaves : ReceiverLeaves (other role) r (end_of_recv half)
  pub role_is : receiver_of half ≡ other role

pub received-over : (role : Role) (ring : RingId) (moves : List ReceiveMove) (end : AnyRecv) (half : RecvHalf) → AnyReceives (opened_recv role ring) moves end → RecvLeaves end half → ReceivedOver role ring moves half
received-over Driver ring moves (recv.Device r) (received.Device half) moved leaves = record { r = r; moved = moved; leaves = leaves; role_is = refl }
received-over Device ring moves (recv.Driver r) (received.Driver half) moved leaves = record { r = r; moved = moved; leaves = leaves; role_is = refl }
received-over Driver ring moves (recv.Device r) (received.Driver half) moved leaves = absurd leaves
received-over Device ring moves (recv.Driver r) (received.Device half) moved leaves = absurd leaves
received-over Driver ring moves (recv.Plain r) half moved leaves = absurd moved
received-over Driver ring moves (recv.Driver r) half moved leaves = absurd moved
received-over Device ring moves (recv.Plain r) half moved leaves = absurd moved
received-over Device ring moves (recv.Device r) half moved leaves = absurd moved

pub between : (ring : TableShown) (a : SendHalf) (b : RecvHalf) (closed : FinishedRing) → AreFinished ring a b closed → IsFinishedBetween (sender_of a) ring (end_of_send a) (end_of_recv b) closed
between ring (sent.Driver a) (received.Device b) closed f = f
between ring (sent.Device a) (received.Driver b) closed f = f
between ring (sent.Driver a) (received.Driver b) closed f = absurd f
between ring (sent.Device a) (received.Device b) closed f = absurd f

pub are-lane-runs : (ring : TableShown) (a : SendHalf) (b : RecvHalf) (closed : FinishedRing) → AreFinished ring a b closed → AreLaneRuns ring a b closed
are-lane-runs ring a b closed f sender sends receives run =
    let x = sent-over sender ring.ring sends run.sent.end a run.sent.moved run.sent.leaves in
    let y = received-over sender ring.ring receives run.received.end b run.received.moved run.received.leaves in
    let g : IsFinishedBetween sender ring x.s.half y.r.half closed =
    subst (λ (t : Role × End × End). IsFinishedBetween t.0 ring t.1 t.2 closed) (λ i. (x.role_is i, x.leaves.half_is i, y.leaves.half_is i)) (between ring a b closed f) in
    lane-run sender ring x.s y.r sends receives closed x.moved y.moved x.leaves.sender y.leaves.receiver g

-- what was free, or out, is held by the half
sender-kept : (sender : Role) (ring : TableShown) (s : RingSender) (sending receiving : End) (closed : FinishedRing) → SenderLeaves sender s sending → sending.ring ≡ ring.ring → IsFinishedBetween sender ring sending receiving closed → length (with_sender sender closed) ≡ length s.free
sender-kept sender ring s sending receiving closed l on f =
    let h = (sides sender ring sending receiving closed f).sender_has in let k = l.free in
    let w = ap (λ (e : End). length e.written) l.half_is in let t = ap (λ (e : End). length e.taken) l.half_is in
    let b : starts_with s.role (size_of s.half.ring) ≡ starts_with sender (size_of ring.ring) = λ i. starts_with (l.role_is i) (size_of ((sym (ap (λ (e : End). e.ring) l.half_is) ∙ on) i)) in
    omega (arith, h, k, w, t, b)

receiver-kept : (sender : Role) (ring : TableShown) (r : RingReceiver) (sending receiving : End) (closed : FinishedRing) → ReceiverLeaves (other sender) r receiving → receiving.ring ≡ ring.ring → IsFinishedBetween sender ring sending receiving closed → length (with_receiver sender closed) ≡ length (out_at r)
receiver-kept sender ring r sending receiving closed l on f =
    let h = (sides sender ring sending receiving closed f).receiver_has in let k = l.out in
    let w = ap (λ (e : End). length e.written) l.half_is in let t = ap (λ (e : End). length e.taken) l.half_is in
    let o = l.receiver.opened in let d = length-drop (written_before r.role (receiver_size r)) r.half.written in
    let b : written_before r.role (receiver_size r) ≡ starts_with (other sender) (size_of ring.ring) =
    (λ i. written_before (l.role_is i) (size_of ((sym (ap (λ (e : End). e.ring) l.half_is) ∙ on) i))) ∙ written-start (other sender) (size_of ring.ring) in
    omega (arith, h, k, w, t, o, d, b)

free-kept : (ring : TableShown) (a : SendHalf) (b : RecvHalf) (closed : FinishedRing) → AreHalvesOf ring a b → AreFinished ring a b closed → (s : AnySend) → SendLeaves s a → length (with_sender (sender_of a) closed) ≡ length (free_of_any s)
free-kept ring (sent.Driver a) (received.Device b) closed on f (send.Driver s) l = sender-kept Driver ring s a b closed l on.0 f
free-kept ring (sent.Device a) (received.Driver b) closed on f (send.Device s) l = sender-kept Device ring s a b closed l on.1 f
free-kept ring (sent.Driver a) (received.Device b) closed on f (send.Plain s) l = absurd l
free-kept ring (sent.Driver a) (received.Device b) closed on f (send.Device s) l = absurd l
free-kept ring (sent.Device a) (received.Driver b) closed on f (send.Plain s) l = absurd l
free-kept ring (sent.Device a) (received.Driver b) closed on f (send.Driver s) l = absurd l
free-kept ring (sent.Driver a) (received.Driver b) closed on f s l = absurd f
free-kept ring (sent.Device a) (received.Device b) closed on f s l = absurd f

out-kept : (ring : TableShown) (a : SendHalf) (b : RecvHalf) (closed : FinishedRing) → AreHalvesOf ring a b → AreFinished ring a b closed → (r : AnyRecv) → RecvLeaves r b → length (with_receiver (sender_of a) closed) ≡ length (out_of_any r)
out-kept ring (sent.Driver a) (received.Device b) closed on f (recv.Device r) l = receiver-kept Driver ring r a b closed l on.1 f
out-kept ring (sent.Device a) (received.Driver b) closed on f (recv.Driver r) l = receiver-kept Device ring r a b closed l on.0 f
out-kept ring (sent.Driver a) (received.Device b) closed on f (recv.Plain r) l = absurd l
out-kept ring (sent.Driver a) (received.Device b) closed on f (recv.Driver r) l = absurd l
out-kept ring (sent.Device a) (received.Driver b) closed on f (recv.Plain r) l = absurd l
out-kept ring (sent.Device a) (received.Driver b) closed on f (recv.Device r) l = absurd l
out-kept ring (sent.Driver a) (received.Driver b) closed on f r l = absurd f
out-kept ring (sent.Device a) (received.Device b) closed on f r l = absurd f

pub held-by-ends : (ring : TableShown) (a : SendHalf) (b : RecvHalf) (closed : FinishedRing) → AreHalvesOf ring a b → AreFinished ring a b closed → HeldByEnds a b closed
held-by-ends ring a b closed on f = record { free = free-kept ring a b closed on f; out = out-kept ring a b closed on f }

-- the halves are of the ring over which the lane was opened
sends-on : (sender : Role) (ring : RingId) (sends : List SendMove) (half : SendHalf) → SentOver sender ring sends half → (end_of_send half).ring ≡ ring
sends-on Driver ring sends half x = ap (λ (e : End). e.ring) x.leaves.half_is ∙ x.moved.ring
sends-on Device ring sends half x = ap (λ (e : End). e.ring) x.leaves.half_is ∙ x.moved.ring

receives-on : (sender : Role) (ring : RingId) (receives : List ReceiveMove) (half : RecvHalf) → ReceivedOver sender ring receives half → (end_of_recv half).ring ≡ ring
receives-on Driver ring receives half x = ap (λ (e : End). e.ring) x.leaves.half_is ∙ x.moved.ring
receives-on Device ring receives half x = ap (λ (e : End). e.ring) x.leaves.half_is ∙ x.moved.ring

are-halves : (ring : TableShown) (a : SendHalf) (b : RecvHalf) → receiver_of b ≡ other (sender_of a) → (end_of_send a).ring ≡ ring.ring → (end_of_recv b).ring ≡ ring.ring → AreHalvesOf ring a b
are-halves ring (sent.Driver a) (received.Device b) role on off = (on, off)
are-halves ring (sent.Device a) (received.Driver b) role on off = (off, on)
are-halves ring (sent.Driver a) (received.Driver b) role on off = absurd (let bad : Driver ≡ Device = role in cc)
are-halves ring (sent.Device a) (received.Device b) role on off = absurd (let bad : Device ≡ Driver = role in cc)

pub halves-stay : (sender : Role) (ring : TableShown) (sends : List SendMove) (receives : List ReceiveMove) (a : SendHalf) (b : RecvHalf) → HaveRun sender ring sends receives a b → AreHalvesOf ring a b
halves-stay sender ring sends receives a b run =
    let x = sent-over sender ring.ring sends run.sent.end a run.sent.moved run.sent.leaves in
    let y = received-over sender ring.ring receives run.received.end b run.received.moved run.received.leaves in
    are-halves ring a b (y.role_is ∙ ap other (sym x.role_is)) (sends-on sender ring.ring sends a x) (receives-on sender ring.ring receives b y)
