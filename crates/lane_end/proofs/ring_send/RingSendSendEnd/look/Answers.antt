use Rattle.std.proofs.Common.{◌≡◌, arith}
use Rattle.std.specs.VecDeque.{deque_capacity}
use Rattle.lane_end.specs.KeptRing.{sender_with}
use Rattle.lane_end.proofs.SenderLemmas.{look-keeps, look-moves}
use Rattle.lane_end.proofs.ring_send.RingSendSendEnd.look.Goals as goal

pub invariant_of-self : goal.invariant_of-self
invariant_of-self g c =
    let i = c.loop.self-inside in let n = c.look_once-shown.result in
    let done : c.loop.counter ≡ n = let a = c.loop-test.false in let b = c.loop.auto.counter-end in omega (arith, a, b) in
    record {
      keeps = look-keeps i.on.now (deque_capacity i.free) n c.loop.counter c.args.self.now (sender_with g.H.RingHalf.role (g.H.RingHalf.end i.half) i.free.items) c.loop.invariant.back done;
      wide = c.loop.invariant.wide;
    }

pub returns-clause-moved : goal.returns-clause-moved
returns-clause-moved g c =
    let i = c.loop.self-inside in let n = c.look_once-shown.result in
    let done : c.loop.counter ≡ n = let a = c.loop-test.false in let b = c.loop.auto.counter-end in omega (arith, a, b) in
    look-moves i.on.now (deque_capacity i.free) n c.loop.counter c.args.self.now (sender_with g.H.RingHalf.role (g.H.RingHalf.end i.half) i.free.items) c.loop.invariant.back done
