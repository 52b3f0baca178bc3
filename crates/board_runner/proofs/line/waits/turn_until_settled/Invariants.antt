use Rattle.std.proofs.Common.{◌-◌}
use Rattle.board_runner.specs.Runs.{AllCarried, IsSomeNext, KeepCounts}
use Rattle.board_runner.proofs.WaitRounds.{RoundsTo}
use Rattle.board_runner.proofs.line.waits.turn_until_settled.Given as goal

abbrev pub invariant-loop-round : goal.invariant-loop-round
invariant-loop-round l = record {
  rounds : RoundsTo l.line l.at l.limit (l.limit - l._round) l.fn.stations l.stations;
  next : IsSomeNext l.line l.at l.stations;
  carried : AllCarried l.stations;
  counts : KeepCounts l.fn.stations l.stations;
}
