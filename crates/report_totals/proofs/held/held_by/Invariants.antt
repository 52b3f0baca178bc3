use Rattle.std.proofs.Common.{◌≡◌, ℕ, ◌<◌, length}
use Rattle.std.specs.Prelude.{Some, slice_get, min}
use Rattle.board_model.specs.State.{queued_from, lent_from}
use Rattle.report_totals.proofs.held.held_by.Given as goal

abbrev pub invariant-loop-peer : goal.invariant-loop-peer
invariant-loop-peer l = record {
  many : length l.held.places ≡ 8;
  places : (n : ℕ) → n < l.peer → slice_get l.held.places n ≡ Some (record { queue = min (queued_from n l.state) 4294967295; lent = min (lent_from n l.state) 4294967295 });
  queued : l.held.queued ≡ l.initial.held.queued;
}
