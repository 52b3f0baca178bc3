use Rattle.std.proofs.Common.{sym, subst}
use Rattle.shared_words.specs.declared.view.Role.TheVariants.{Driver, Device}
use Rattle.lane_end.specs.RingSender.{RingSender}
use Rattle.lane_end.specs.RingReceiver.{RingReceiver}
use Rattle.lane_end.specs.RingLane.{AreOfOneRing, HaveMet}
use Rattle.lane_end.specs.KeptRing.{sender_with, receiver_with}
use Rattle.lane_end.proofs.MeetingLemmas.{have-met}
use Rattle.lane_end.proofs.meeting.meet_queue1.Goals as goal

pub returns : goal.returns
returns c =
    let i = c.send.inside in let j = c.recv.inside in let e = c.meet.ensures in
    let s = sender_with Driver i.half i.free.items in let r = receiver_with Device j.half j.shown in
    let one : AreOfOneRing s r = subst (λ (x : RingSender × RingReceiver). AreOfOneRing x.0 x.1) (λ k. (sym c.send.view_is k, sym c.recv.view_is k)) c.requires in
    let met = have-met s r one c.send.invariant.keeps.sender c.recv.invariant.receiver e.fetched e.reclaimed e.device_shown e.driver_shown in
    subst (λ (x : RingSender × RingReceiver × RingSender × RingReceiver). HaveMet x.0 x.1 x.2 x.3)
    (λ k. (c.send.view_is k, c.recv.view_is k, sender_with Driver (sym e.driver k) i.free.items, receiver_with Device (sym e.device k) j.shown)) met
