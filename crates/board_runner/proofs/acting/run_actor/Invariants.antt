use Rattle.std.proofs.Common.{◌≡◌, ◌+◌, length}
use Rattle.board_runner.specs.Acting.{HasRun, IsActing, lines_more, log_at}
use Rattle.board_runner.proofs.acting.run_actor.Given as goal

abbrev pub invariant-loop-next : goal.invariant-loop-next
invariant-loop-next g l = record {
  ran : HasRun l.fn.station l.lines.items l.station;
  acting : IsActing g.A.Actor l.fn.actor (log_at l.lines.items l.station) l.next l.actor;
  room : length l.room ≡ 9000;
}

abbrev pub decreases-loop-next : goal.decreases-loop-next
decreases-loop-next g l = g.A.Actor.todo l.actor + lines_more l.next
