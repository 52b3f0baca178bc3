use Rattle.std.proofs.Common.{◌+◌, ◌-◌, ◌<◌, ◌≤◌, ◌++◌, ◌∷◌, [], ◌∙◌, length, take, sym, subst, ap, arith}
use Rattle.shared_words.specs.Entry.{Entry}
use Rattle.split_ring.specs.Ends.{End, IsSound}
use Rattle.lane_end.specs.Numbers.{AreApart}
use Rattle.lane_end.specs.ReceiveMoves.{Took}
use Rattle.lane_end.specs.RingReceiver.{RingReceiver, receiver_size, out_at, RingReceives}
use Rattle.lane_end.specs.KeptRing.{receiver_with}
use Rattle.lane_end.proofs.ReceiverLemmas.{ring_width, take-keeps, take-moves, took, out-apart, out-room, out-takes}
use Rattle.lane_end.proofs.ring_recv.RingRecvRecvEnd.take.Goals as goal

pub returns-clause-out : goal.returns-clause-out
returns-clause-out g c =
    let i = c.self.inside in let role = g.H.RingHalf.role in let e : Entry = (c.take_next.result.0, c.take_next.result.1) in
    let r = receiver_with role (g.H.RingHalf.end i.half) i.shown in
    ap (λ (h : End). out_at (receiver_with role h (i.shown - 1))) c.take_next.ensures.taken
    ∙ (out-takes i.on.now r c.self.invariant e ∙ ap (λ (q : RingReceiver). out_at q ++ e.0.number ∷ []) c.self.view_is)

pub returns-clause-apart : goal.returns-clause-apart
returns-clause-apart g c =
    let i = c.self.inside in let role = g.H.RingHalf.role in let e : Entry = (c.take_next.result.0, c.take_next.result.1) in let is = c.take_next.ensures.taken in
    let r = receiver_with role (g.H.RingHalf.end i.half) i.shown in
    let some : 0 < r.shown = let q = c.requires.shown in let v = ap (λ (q : RingReceiver). q.shown) c.self.view_is in omega (arith, q, v) in
    let k = take-keeps i.on.now r c.self.invariant e some (subst (IsSound role) is c.take_next.ensures.sound) in
    subst (λ (h : End). AreApart (receiver_size (receiver_with role h (i.shown - 1))) (out_at (receiver_with role h (i.shown - 1)))) (sym is) (out-apart i.on.now (took e r) k)

pub returns-clause-room : goal.returns-clause-room
returns-clause-room g c =
    let i = c.self.inside in let role = g.H.RingHalf.role in let e : Entry = (c.take_next.result.0, c.take_next.result.1) in let is = c.take_next.ensures.taken in
    let r = receiver_with role (g.H.RingHalf.end i.half) i.shown in
    let some : 0 < r.shown = let q = c.requires.shown in let v = ap (λ (q : RingReceiver). q.shown) c.self.view_is in omega (arith, q, v) in
    let k = take-keeps i.on.now r c.self.invariant e some (subst (IsSound role) is c.take_next.ensures.sound) in
    subst (λ (h : End). length (out_at (receiver_with role h (i.shown - 1))) + (i.shown - 1) ≤ receiver_size (receiver_with role h (i.shown - 1))) (sym is) (out-room i.on.now (took e r) k)

pub returns-clause-moved : goal.returns-clause-moved
returns-clause-moved g c =
    let i = c.self.inside in let role = g.H.RingHalf.role in let e : Entry = (c.take_next.result.0, c.take_next.result.1) in let is = c.take_next.ensures.taken in
    let r = receiver_with role (g.H.RingHalf.end i.half) i.shown in
    let some : 0 < r.shown = let q = c.requires.shown in let v = ap (λ (q : RingReceiver). q.shown) c.self.view_is in omega (arith, q, v) in
    let k = take-keeps i.on.now r c.self.invariant e some (subst (IsSound role) is c.take_next.ensures.sound) in
    subst (λ (x : RingReceiver × RingReceiver). RingReceives x.0 (Took e.0.number (take e.1 e.0.bytes) ∷ []) x.1) (λ j. (c.self.view_is j, receiver_with role (sym is j) (i.shown - 1)))
    (take-moves i.on.now r c.self.invariant e (out-apart i.on.now (took e r) k))

pub returns-clause-fits : goal.returns-clause-fits
returns-clause-fits g c =
    let i = c.self.inside in let f = c.take_next.ensures.fits in
    let w = ring_width i.on.now (receiver_with g.H.RingHalf.role (g.H.RingHalf.end i.half) i.shown) c.self.invariant in omega (arith, f, w)

pub returns-clause-wide : goal.returns-clause-wide
returns-clause-wide g c =
    let i = c.self.inside in
    c.take_next.ensures.wide ∙ (ap (λ (h : End). h.ring.width) c.take_next.ensures.taken
    ∙ ring_width i.on.now (receiver_with g.H.RingHalf.role (g.H.RingHalf.end i.half) i.shown) c.self.invariant)
