use Rattle.std.proofs.Common.{◌≡◌, ◌-◌, true}
use Rattle.call_actor.specs.ServerSteps.{have_left}
use Rattle.call_actor.proofs.desk.all_marked.Given as goal

-- those before it have left
abbrev pub invariant-loop-client : goal.invariant-loop-client
invariant-loop-client l = have_left (l.client - 1) l.left ≡ true
