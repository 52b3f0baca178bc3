use Rattle.std.proofs.Common.{◌≡◌, length, sum_by}
use Rattle.board_model.specs.Queues.{messages_at}
use Rattle.board_runner.proofs.HoldingLemmas.{HeldBelow}
use Rattle.board_runner.proofs.ending.held_by.Given as goal

abbrev pub invariant-loop-peer : goal.invariant-loop-peer
invariant-loop-peer l = record {
  queued : l.held.queued ≡ sum_by messages_at l.domain.state.endpoints;
  eight : length l.held.places ≡ 8;
  places : HeldBelow l.domain.state l.peer l.held.places;
}
