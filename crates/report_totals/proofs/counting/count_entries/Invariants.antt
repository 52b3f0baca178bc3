use Rattle.std.proofs.Common.{◌≤◌, length}
use Rattle.report_text.specs.Texts.{longest_line}
use Rattle.report_totals.specs.Counting.{HasCounted}
use Rattle.report_totals.proofs.counting.count_entries.Given as goal

abbrev pub decreases-loop-entry : goal.decreases-loop-entry
decreases-loop-entry l = length l.rest

abbrev pub invariant-loop-entry : goal.invariant-loop-entry
invariant-loop-entry l = record {
  counted : HasCounted l.own l.deletes l.text l.rest l.initial.all l.all l.counts l.deleted l.closing;
  fits : longest_line l.rest ≤ longest_line l.text;
}
