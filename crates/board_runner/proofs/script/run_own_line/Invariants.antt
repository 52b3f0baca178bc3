use Rattle.std.proofs.Common.{◌≡◌, length}
use Rattle.board_runner.specs.Answered.{KeepsAnswers}
use Rattle.board_runner.proofs.OwnRunLemmas.{CountsNothing, Tried}
use Rattle.board_runner.proofs.script.run_own_line.Given as goal

abbrev pub invariant-loop-call : goal.invariant-loop-call
invariant-loop-call g l = record {
  tried : Tried l.line l._call l.fn.station l.station;
  counts : CountsNothing l.fn.station l.station;
  answers : KeepsAnswers l.fn.station l.station;
  room : length l.room ≡ 9000;
}
