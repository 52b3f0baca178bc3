use Rattle.std.proofs.Common.{◌≡◌, length}
use Rattle.board_runner.proofs.OwnRunLemmas.{RanFront}
use Rattle.board_runner.proofs.script.run_script.Given as goal

abbrev pub invariant-loop-line : goal.invariant-loop-line
invariant-loop-line g l = record { ran : RanFront l.scenario l.line-index l.fn.station l.station; room : length l.room.items ≡ 9000 }
