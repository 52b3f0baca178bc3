use Rattle.std.proofs.Common.{length, ◌-◌, ◌≤◌, ◌≡◌}
use Rattle.std.specs.Io.KnownBytes.{Consumes}
use Rattle.outer_io.specs.Calls.{CountsAtMost}
use Rattle.outer_io.proofs.source.read_all.Given as goal

abbrev pub invariant-loop-count : goal.invariant-loop-count
invariant-loop-count g l = record {
  so_far : Consumes (g.S.Source.rest l.fn.source) (g.S.Source.rest l.source) l.bytes.items;
  quiet : g.S.Source.faults l.source ≡ g.S.Source.faults l.fn.source;
  within : length l.bytes.items ≤ l.limit;
  chunk : length l.buf ≡ 65536;
  reads : CountsAtMost (g.S.Source.calls l.fn.source) (g.S.Source.calls l.source) (length l.bytes.items);
  before_end : g.S.Source.ends l.source ≡ g.S.Source.ends l.fn.source;
  sound : g.S.Source.never_fails l.fn.source → g.S.Source.never_fails l.source;
}

abbrev pub decreases-loop-count : goal.decreases-loop-count
decreases-loop-count g l = l.limit - length l.bytes.items
