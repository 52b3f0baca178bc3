-- What the server holds, as its code keeps it.
-- Source: the code of the server.
use Rattle.call_actor.specs.declared.desk.Desk.TheInside.{Inside}
use Rattle.call_actor.specs.ServerSteps.{Held}

abbrev pub held_in : Inside → Held
held_in d = record { service = d.service; reply = d.reply; received = d.received; left = d.left }

abbrev pub IsDesk : Inside → Type 0
IsDesk d = Unit {0}
