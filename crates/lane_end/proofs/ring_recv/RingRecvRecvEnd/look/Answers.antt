use Rattle.std.proofs.Common.{◌+◌, ◌≤◌, ◌∷◌, [], length, ap, sym, subst, arith}
use Rattle.split_ring.specs.Ends.{End, IsSound}
use Rattle.lane_end.specs.Numbers.{AreApart}
use Rattle.lane_end.specs.ReceiveMoves.{Looked}
use Rattle.lane_end.specs.RingReceiver.{RingReceiver, receiver_size, out_at, RingReceives}
use Rattle.lane_end.specs.KeptRing.{receiver_with}
use Rattle.lane_end.proofs.ReceiverLemmas.{look-keeps, look-moves, looked, out-apart, out-room}
use Rattle.lane_end.proofs.ring_recv.RingRecvRecvEnd.look.Goals as goal

pub returns-clause-apart : goal.returns-clause-apart
returns-clause-apart g c =
    let i = c.self.inside in let role = g.H.RingHalf.role in let n = c.look_once-shown.result in let is = c.look_once-shown.ensures.looked in
    let r = receiver_with role (g.H.RingHalf.end i.half) i.shown in
    let k = look-keeps i.on.now r c.self.invariant n (subst (IsSound role) is c.look_once-shown.ensures.sound) in
    subst (λ (h : End). AreApart (receiver_size (receiver_with role h n)) (out_at (receiver_with role h n))) (sym is) (out-apart i.on.now (looked n r) k)

pub returns-clause-room : goal.returns-clause-room
returns-clause-room g c =
    let i = c.self.inside in let role = g.H.RingHalf.role in let n = c.look_once-shown.result in let is = c.look_once-shown.ensures.looked in
    let r = receiver_with role (g.H.RingHalf.end i.half) i.shown in
    let k = look-keeps i.on.now r c.self.invariant n (subst (IsSound role) is c.look_once-shown.ensures.sound) in
    subst (λ (h : End). length (out_at (receiver_with role h n)) + n ≤ receiver_size (receiver_with role h n)) (sym is) (out-room i.on.now (looked n r) k)

pub returns-clause-moved : goal.returns-clause-moved
returns-clause-moved g c =
    let i = c.self.inside in let role = g.H.RingHalf.role in let n = c.look_once-shown.result in let is = c.look_once-shown.ensures.looked in
    let r = receiver_with role (g.H.RingHalf.end i.half) i.shown in
    let known : r.half.shown ≤ length r.half.taken + n = let s = c.look_once-shown.ensures.shown in let e = ap (λ (h : End). h.shown) is in omega (arith, s, e) in
    subst (λ (x : RingReceiver × RingReceiver). RingReceives x.0 (Looked n ∷ []) x.1) (λ j. (c.self.view_is j, receiver_with role (sym is j) n)) (look-moves i.on.now r c.self.invariant n known)
