-- How many lines an actor may still give, at most.
-- Source: the code of the actors. A call has eight lines at most: its request is sent four times, and as many replies are received.
use Rattle.std.specs.Prelude.{ℕ, ◌+◌, ◌-◌, ◌*◌}
use Rattle.call_actor.specs.declared.place.ClientPlace.{ClientPlace}
use Rattle.call_actor.specs.declared.place.ClientPlace.TheVariants as client
use Rattle.call_actor.specs.declared.place.ServerPlace.{ServerPlace}
use Rattle.call_actor.specs.declared.place.ServerPlace.TheVariants as server
use Rattle.call_actor.specs.declared.rules.ServerRole.{ServerRole}
use Rattle.call_actor.specs.ServerLimits.{limit}

-- of a client with so many calls
abbrev pub left_of_client : ℕ → ClientPlace → ℕ
left_of_client calls client.New = 8 * calls + 4
left_of_client calls client.Created = 8 * calls + 3
left_of_client calls client.LookedUp = 8 * calls + 2
left_of_client calls client.Waited = 8 * calls + 1
left_of_client calls (client.Sent call times) = 8 * (calls - (call + 1)) + 4 + (5 - times)
left_of_client calls (client.Received call times) = 8 * (calls - (call + 1)) + (5 - times)
left_of_client calls client.Left = 0
left_of_client calls client.Ended = 0

-- the receives and replies that may come once so many messages came
abbrev pub exchanges_left : ServerRole → ℕ → ℕ
exchanges_left c received = 2 * (limit c - received)

abbrev pub left_of_server : ServerRole → ServerPlace → ℕ → ℕ
left_of_server c server.New received = 2 * c.clients + 2 + exchanges_left c received
left_of_server c server.Created received = 2 * c.clients + 1 + exchanges_left c received
left_of_server c (server.LookedUp d) received = 2 * (c.clients - d) + 2 + exchanges_left c received
left_of_server c (server.Waited d) received = 2 * (c.clients - d) + 1 + exchanges_left c received
left_of_server c server.Receiving received = exchanges_left c received
left_of_server c server.Replying received = 1 + exchanges_left c received
left_of_server c server.Ended received = 0
