use Rattle.std.proofs.Common.{take}
use Rattle.board_runner.specs.EndedStations.{TellStations}
use Rattle.board_runner.proofs.ending.tallies_of.Given as goal

abbrev pub invariant-loop-at : goal.invariant-loop-at
invariant-loop-at l = TellStations (take l.at l.stations) l.tallies
