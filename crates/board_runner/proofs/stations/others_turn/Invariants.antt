use Rattle.board_runner.proofs.OthersLemmas.{SoFar}
use Rattle.board_runner.proofs.stations.others_turn.Given as goal

abbrev pub invariant-loop-other : goal.invariant-loop-other
invariant-loop-other l = SoFar l.other l.at l.fn.stations l.stations
