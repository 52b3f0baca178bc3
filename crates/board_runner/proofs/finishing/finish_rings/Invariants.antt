use Rattle.board_runner.specs.Finishing.{BoardMoves, LinksHaveRun}
use Rattle.board_runner.proofs.FinishingLemmas.{GoesOn}
use Rattle.board_runner.proofs.finishing.finish_rings.Given as goal

abbrev pub invariant-loop-two : goal.invariant-loop-two
invariant-loop-two l = (moves : BoardMoves) → LinksHaveRun moves l.links l.fn.rings.items l.fn.ended.items → GoesOn moves l.links l.fn.rings.items l.at l.two-iterator.rest.items l.ended.items l.closed
