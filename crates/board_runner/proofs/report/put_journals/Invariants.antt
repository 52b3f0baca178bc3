use Rattle.std.proofs.Common.{take}
use Rattle.outer_io.specs.Puts.{Puts}
use Rattle.board_model.specs.Scenario.{rising}
use Rattle.board_model.specs.Report.{journals_text}
use Rattle.board_runner.specs.Outcome.{lines_in}
use Rattle.board_runner.proofs.report.put_journals.Given as goal

abbrev pub invariant-loop-at : goal.invariant-loop-at
invariant-loop-at g l = Puts g.K.Sink l.initial.out l.out (journals_text (take l.at (rising l.scenario)) (lines_in (take l.at l.journals)))
