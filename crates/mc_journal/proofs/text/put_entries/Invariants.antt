use Rattle.std.proofs.Common.{take}
use Rattle.outer_io.specs.Puts.{Puts}
use Rattle.board_model.specs.Report.{lines_text}
use Rattle.mc_journal.proofs.text.put_entries.Given as goal

abbrev pub invariant-loop-at : goal.invariant-loop-at
invariant-loop-at g l = Puts g.K.Sink l.initial.out l.out (lines_text (take l.at l.journal.lines))
