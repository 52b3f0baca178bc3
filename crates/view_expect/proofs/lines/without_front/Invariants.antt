use Rattle.std.proofs.Common.{◌≡◌, length}
use Rattle.view_expect.specs.Expected.{unspaced}
use Rattle.view_expect.proofs.lines.without_front.Given as goal

abbrev pub decreases-loop-rest : goal.decreases-loop-rest
decreases-loop-rest l = length l.rest

abbrev pub invariant-loop-rest : goal.invariant-loop-rest
invariant-loop-rest l = unspaced l.rest ≡ unspaced l.text
