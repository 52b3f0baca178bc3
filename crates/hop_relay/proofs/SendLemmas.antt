-- Actors may move to another thread, part by part: rattle makes no such law of a type that holds a snapshot.
use denote.Param.Send.{IsSend, sendable}
use denote.RattleType.{RattleType}
use Rattle.std.specs.contracts.snapshot.Snapshot.{the_row as snapshot_row}
use Rattle.board_model.proofs.scenario.CallLine.TheSendSync.{the_send as line_send}
use Rattle.hop_relay.proofs.packets.Packets.TheSendSync.{the_send as packets_send}
use Rattle.hop_relay.proofs.queue.Queue.TheSendSync.{the_send as queue_send}
use Rattle.hop_relay.proofs.step.Step.TheSendSync.{the_field_send as step_send}
use Rattle.hop_relay.specs.contracts.first.First.{the_field as first_field}
use Rattle.hop_relay.specs.contracts.last.Last.{the_field as last_field}
use Rattle.hop_relay.specs.contracts.middle.Middle.{the_field as middle_field}
use Rattle.hop_relay.specs.contracts.progress.Progress.{the_field as progress_field}
use Rattle.hop_relay.specs.contracts.taker.Taker.{the_field as taker_field}

-- a snapshot owns nothing
snapshot_send : (T : RattleType) → IsSend (snapshot_row T)
snapshot_send T = record { owned = λ d vs. ((λ vss. (tt, ((λ uss. (tt, tt)), tt))), tt); leaving = λ k f vs. tt }

progress_send : IsSend (progress_field).row
progress_send = search (sendable, line_send, queue_send, step_send, snapshot_send) depth 12

taker_send : IsSend (taker_field).row
taker_send = search (sendable, progress_send) depth 12

pub middle_send : IsSend (middle_field).row
middle_send = search (sendable, taker_send) depth 12

pub last_send : IsSend (last_field).row
last_send = search (sendable, taker_send) depth 12

pub first_send : IsSend (first_field).row
first_send = search (sendable, progress_send, packets_send, snapshot_send) depth 12
