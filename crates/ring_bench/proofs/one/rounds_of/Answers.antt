use Rattle.std.proofs.Common.{ap, arith}
use Rattle.shared_words.specs.Shown.{RingId}
use Rattle.ring_bench.proofs.one.rounds_of.Goals as goal

-- a length below that of the shortest buffer fits the buffers of every ring
pub offer-requires-clause-fits : goal.offer-requires-clause-fits
offer-requires-clause-fits c =
    let same = ap (λ (r : RingId). r.width) c.loop-round.invariant.driver in
    omega (arith, same, c.requires.wide, c.length-len.ensures)
