use Rattle.std.proofs.Common.{◌≡◌, ℕ, length, ◌-◌, ◌≤◌, take}
use Rattle.std.specs.Io.KnownBytes.{Appends}
use Rattle.outer_io.specs.Calls.{CountsAtMost}
use Rattle.outer_io.proofs.sink.write_all.Given as goal

abbrev pub invariant-loop-done : goal.invariant-loop-done
invariant-loop-done g l = record {
  so_far : Appends (g.K.Sink.written l.fn.sink) (g.K.Sink.written l.sink) (take l.done l.piece);
  few : CountsAtMost (g.K.Sink.calls l.fn.sink) (g.K.Sink.calls l.sink) l.done;
  quiet : g.K.Sink.faults l.sink ≡ g.K.Sink.faults l.fn.sink;
  within : l.done ≤ length l.piece;
  room : (n : ℕ) → g.K.Sink.takes l.fn.sink n → length l.piece ≤ n → g.K.Sink.takes l.sink (n - l.done);
  unmoved : l.done ≡ 0 → l.sink ≡ l.fn.sink;
}

abbrev pub decreases-loop-done : goal.decreases-loop-done
decreases-loop-done g l = length l.piece - l.done
