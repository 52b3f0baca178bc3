use Rattle.board_runner.proofs.AllCarried.{CarriedUpTo}
use Rattle.board_runner.proofs.carrying.carry_all.Given as goal

-- what the domain put and gave back has come to the stations before `other`
abbrev pub invariant-loop-other : goal.invariant-loop-other
invariant-loop-other l = CarriedUpTo l.at l.other l.initial.stations l.stations
