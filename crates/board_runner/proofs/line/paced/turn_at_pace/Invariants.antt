use Rattle.board_runner.proofs.PacedWaits.{PollingAlone}
use Rattle.board_runner.proofs.line.paced.turn_at_pace.Given as goal

abbrev pub invariant-loop-turn : goal.invariant-loop-turn
invariant-loop-turn g l = PollingAlone l.line l._turn l.fn.station l.station
