use Rattle.std.proofs.Common.{◌≡◌, ◌≤◌, length}
use Rattle.view_expect.specs.Expected.{trimmed_to}
use Rattle.view_expect.proofs.lines.without_end.Given as goal

abbrev pub decreases-loop-size : goal.decreases-loop-size
decreases-loop-size l = l.size

abbrev pub invariant-loop-size : goal.invariant-loop-size
invariant-loop-size l = record {
  within : l.size ≤ length l.text;
  text : trimmed_to l.size l.text ≡ trimmed_to (length l.text) l.text;
}
