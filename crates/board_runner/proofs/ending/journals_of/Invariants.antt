use Rattle.std.proofs.Common.{◌≡◌, map}
use Rattle.board_runner.specs.Outcome.{lines_in}
use Rattle.board_runner.proofs.ending.journals_of.Given as goal

abbrev pub invariant-loop-station : goal.invariant-loop-station
invariant-loop-station l = lines_in l.journals ≡ map (λ st. st.journal.lines) l.yielded
