-- What a client was made from, as its code keeps it.
-- Source: the code of the client.
use Rattle.std.specs.Prelude.{◌≤◌, length}
use Rattle.call_actor.specs.declared.task.Task.TheInside.{Inside}
use Rattle.call_actor.specs.CallLimits.{call_limit}
use Rattle.call_actor.specs.ClientSteps.{ClientRole}

abbrev pub role_in : Inside → ClientRole
role_in t = record { domain = t.domain; repeat = t.repeat; calls = t.calls.items }

abbrev pub IsTask : Inside → Type 0
IsTask t = length t.calls.items ≤ call_limit
