use Rattle.std.proofs.Common.{◌≡◌, length, take}
use Rattle.board_runner.proofs.SerialLemmas.{Along}
use Rattle.board_runner.proofs.serial.run_lines.Given as goal

abbrev pub invariant-loop-line : goal.invariant-loop-line
invariant-loop-line l = record { along : Along l.scenario (take l.line-index l.scenario.calls) l.stations; room : length l.room ≡ 9000 }
