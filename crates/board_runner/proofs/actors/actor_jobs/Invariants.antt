use Rattle.std.proofs.Common.{◌≡◌, ◌++◌}
use Rattle.board_runner.proofs.ActorJobLemmas.{JobsSoFar}
use Rattle.board_runner.proofs.actors.actor_jobs.Given as goal

abbrev pub invariant-loop-station : goal.invariant-loop-station
invariant-loop-station g l = record {
  whole : l.yielded ++ l.station-iterator.rest.items ≡ l.fn.stations.items;
  jobs : JobsSoFar l.fn.actors.items l.actors.items l.yielded l.jobs.items;
}
