use Rattle.std.proofs.Common.{◌≡◌, ◌+◌, ◌≤◌, ◌==◌, length}
use Rattle.std.specs.Prelude.{filter}
use Rattle.report_text.proofs.journal_lanes.count_puts.Given as goal

abbrev pub decreases-loop-rest : goal.decreases-loop-rest
decreases-loop-rest l = length l.rest

abbrev pub invariant-loop-rest : goal.invariant-loop-rest
invariant-loop-rest l = record {
  count : l.count + length (filter (λ x. x.peer == l.to) l.rest) ≡ length (filter (λ x. x.peer == l.to) l.puts);
  few : l.count + length l.rest ≤ length l.puts;
}
