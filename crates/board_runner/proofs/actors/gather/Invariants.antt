use Rattle.std.proofs.Common.{◌≡◌, map}
use Rattle.board_runner.specs.Acting.{lines_acted}
use Rattle.board_runner.proofs.actors.gather.Given as goal

abbrev pub invariant-loop-left : goal.invariant-loop-left
invariant-loop-left g l = record {
  lines : l.calls ≡ lines_acted l.yielded;
  stations : l.stations.items ≡ map (λ left. left.station) l.yielded;
  actors : l.actors.items ≡ map (λ left. left.actor) l.yielded;
}
