-- Actors may move to another thread, part by part: rattle makes no such law of a type that holds a snapshot.
use denote.Param.Send.{IsSend, sendable}
use denote.RattleType.{RattleType}
use Rattle.std.specs.contracts.snapshot.Snapshot.{the_row as snapshot_row}
use Rattle.std.proofs.Crossing.{Vec-send}
use Rattle.call_logs.proofs.got.Got.TheSendSync.{the_field_send as got_send}
use Rattle.call_actor.proofs.desk.Desk.TheSendSync.{the_send as desk_send}
use Rattle.call_actor.proofs.place.ClientPlace.TheSendSync.{the_field_send as client_place_send}
use Rattle.call_actor.proofs.place.ServerPlace.TheSendSync.{the_field_send as server_place_send}
use Rattle.call_actor.proofs.rules.ServerRole.TheSendSync.{the_field_send as role_send}
use Rattle.call_actor.proofs.task.Task.TheSendSync.{the_send as task_send}
use Rattle.call_actor.specs.contracts.client.Client.{the_field as client_field}
use Rattle.call_actor.specs.contracts.server.Server.{the_field as server_field}

-- a snapshot owns nothing
snapshot_send : (T : RattleType) → IsSend (snapshot_row T)
snapshot_send T = record { owned = λ d vs. ((λ vss. (tt, ((λ uss. (tt, tt)), tt))), tt); leaving = λ k f vs. tt }

pub client_send : IsSend (client_field).row
client_send = search (sendable, Vec-send, got_send, task_send, client_place_send, snapshot_send) depth 16

pub server_send : IsSend (server_field).row
server_send = search (sendable, desk_send, server_place_send, role_send, snapshot_send) depth 12
