use Rattle.std.proofs.Common.{◌≡◌, ℕ, ◌-◌, ◌<◌, length}
use Rattle.std.specs.Prelude.{slice_index}
use Rattle.board_model.specs.State.{held_from}
use Rattle.report_check.proofs.given.given_by.Given as goal

abbrev pub invariant-loop-peer : goal.invariant-loop-peer
invariant-loop-peer l = record {
  given : (p : ℕ) → p < l.peer → slice_index l.given p ≡ slice_index l.takes p - held_from p l.state;
  many : length l.given ≡ 8;
}
