use Rattle.std.proofs.Common.{◌≡◌, ◌-◌, length}
use Rattle.board_runner.specs.Runs.{IsSomeNext, AllCarried, KeepCounts}
use Rattle.board_runner.proofs.TriesLemmas.{TriedTo}
use Rattle.board_runner.proofs.line.run_line.Given as goal

abbrev pub invariant-loop-call : goal.invariant-loop-call
invariant-loop-call l = record {
  tried : TriedTo l.line l.at (l._call-end - l._call) l.fn.stations l.stations;
  next : IsSomeNext l.line l.at l.stations;
  carried : AllCarried l.stations;
  counts : KeepCounts l.fn.stations l.stations;
  room : length l.room ≡ 9000;
}
