use Rattle.std.proofs.Common.{◌≡◌, length}
use Rattle.report_text.specs.JournalLanes.{frames_at}
use Rattle.report_text.proofs.link_pass.next_put.Given as goal

abbrev pub decreases-loop-rest : goal.decreases-loop-rest
decreases-loop-rest l = length l.rest

abbrev pub invariant-loop-rest : goal.invariant-loop-rest
invariant-loop-rest l = record {
  puts : frames_at l.to l.left.text.now l.rest ≡ frames_at l.to l.left.text.now l.left.puts.now;
}
