use Rattle.board_runner.proofs.WaitRounds.{RoundSoFar}
use Rattle.board_runner.proofs.line.waits.turn_all.Given as goal

abbrev pub invariant-loop-at : goal.invariant-loop-at
invariant-loop-at l = RoundSoFar l.at l.fn.stations l.stations
