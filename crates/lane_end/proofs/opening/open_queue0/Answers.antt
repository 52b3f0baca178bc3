use Rattle.std.proofs.Common.{◌∙◌, List, length, sym, subst, arith, ap}
use Rattle.std.specs.VecDeque.{deque_capacity}
use Rattle.mc_base.specs.Stored.{Stored}
use Rattle.shared_words.specs.Shown.{size_of}
use Rattle.shared_words.specs.declared.view.Role.TheVariants.{Driver, Device}
use Rattle.split_ring.specs.Ends.{End, IsSound}
use Rattle.lane_end.specs.KeptRing.{receiver_with, KeepsSender, KeepsReceiver}
use Rattle.lane_end.proofs.OpeningLemmas.{queue0-sends, queue0-receives, queue0-is, primed-is, offered-is, size-small, new-length}
use Rattle.lane_end.proofs.opening.open_queue0.Goals as goal

pub prime-requires-clause-small : goal.prime-requires-clause-small
prime-requires-clause-small c =
    let all = c.from_vec-free.ensures.items ∙ c.requires.buffers in let ring = c.args.on.now.ring in
    let n = ap (λ (l : List Stored). length l) all in let m = new-length ring in let s = size-small (size_of ring) c.requires.size in omega (arith, n, m, s)

pub invariant_of-send : goal.invariant_of-send
invariant_of-send c =
    let on = c.args.on.now in let cap = deque_capacity c.prime.new.buffers in let all = c.from_vec-free.ensures.items ∙ c.requires.buffers in let e = c.prime.ensures in
    let q = c.requires.room in let v = c.from_vec-free.ensures.capacity in let p = e.room in
    record {
      keeps = subst (KeepsSender on cap) (sym (queue0-is on.ring c.prime.new.device c.from_vec-free.result.items c.prime.new.buffers.items all e.free e.device))
          (queue0-sends on c.requires.width cap c.requires.size (omega (arith, q, v, p)) (subst (IsSound Device) (primed-is on.ring c.prime.new.device c.from_vec-free.result.items all e.device) e.sound.1));
      wide = e.wide;
    }

pub invariant_of-recv : goal.invariant_of-recv
invariant_of-recv c =
    let on = c.args.on.now in let all = c.from_vec-free.ensures.items ∙ c.requires.buffers in let e = c.prime.ensures in
    let is = offered-is on.ring c.prime.new.driver c.from_vec-free.result.items all e.driver in
    subst (λ (h : End). KeepsReceiver on (receiver_with Driver h 0)) (sym is) (queue0-receives on c.requires.width (subst (IsSound Driver) is e.sound.0))

pub returns-clause-sender : goal.returns-clause-sender
returns-clause-sender c =
    let all = c.from_vec-free.ensures.items ∙ c.requires.buffers in let e = c.prime.ensures in
    queue0-is c.args.on.now.ring c.prime.new.device c.from_vec-free.result.items c.prime.new.buffers.items all e.free e.device
