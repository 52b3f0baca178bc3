use Rattle.std.proofs.Common.{true, take}
use Rattle.board_model.specs.Answer.{puts}
use Rattle.report_replay.specs.PlainCalls.{plain_call}
use Rattle.report_check.specs.Meeting.{Meets}
use Rattle.report_check.specs.Runs.{lines_put}
use Rattle.report_check.proofs.run.Run.meets_puts.Given as goal

abbrev pub invariant-loop-n : goal.invariant-loop-n
invariant-loop-n l = Meets l.initial.lines l.lines (lines_put (take l.n (puts l.self.state.state l.next.line.now.node (plain_call l.next.call)))) true
