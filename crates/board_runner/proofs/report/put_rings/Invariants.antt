use Rattle.outer_io.specs.Puts.{Puts}
use Rattle.board_runner.proofs.RingLemmas.{rings_before}
use Rattle.board_runner.proofs.report.put_rings.Given as goal

abbrev pub invariant-loop-at : goal.invariant-loop-at
invariant-loop-at g l = Puts g.K.Sink l.initial.out l.out (rings_before l.at l.links l.rings)
