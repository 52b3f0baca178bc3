use Rattle.std.proofs.Common.{◌≤◌, length}
use Rattle.report_text.specs.Texts.{longest_line}
use Rattle.report_view.specs.Texts.{PutsText}
use Rattle.view_text.proofs.text.put_up_to.Given as goal

abbrev pub invariant-loop-course : goal.invariant-loop-course
invariant-loop-course g l = record {
  puts : PutsText g.K.Sink l.initial.out l.out;
  fits : longest_line l.rest ≤ length l.room;
}

abbrev pub decreases-loop-course : goal.decreases-loop-course
decreases-loop-course g l = length l.rest
