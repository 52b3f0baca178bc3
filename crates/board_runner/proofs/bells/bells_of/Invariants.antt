use Rattle.board_runner.specs.Bells.{HaveParts}
use Rattle.board_runner.proofs.bells.bells_of.Given as goal

abbrev pub invariant-loop-owner : goal.invariant-loop-owner
invariant-loop-owner l = HaveParts l.bells.items l.parts.items
