-- The calls of the replay, as they are defined.
-- Source: docs/PROFILE.md, "Calls".
use Rattle.board_model.specs.DomainCall as plain
use Rattle.board_model.specs.DomainCall.{create_at, delete_at, lookup_of, send_from, receive_at, request_at, available_at, connect_from, open_at, packet_from, lend_at, packet_request_at, release_of, scalar_from, scalar_at, close_at, test_of, wait_for, cancel_of, raw_to, turn_alone}
use Rattle.board_model.specs.ChannelEnds as ends
use Rattle.board_model.specs.ChannelEnds.{opens, sends, receives, closes}
use Rattle.report_replay.specs.declared.calls.call.DomainCall.{DomainCall}
use Rattle.report_replay.specs.declared.calls.call.DomainCall.TheVariants as code
use Rattle.report_replay.specs.declared.calls.ends.EndCall.{EndCall}
use Rattle.report_replay.specs.declared.calls.ends.EndCall.TheVariants as end_code

abbrev pub plain_call : DomainCall → plain.DomainCall
plain_call (code.Create port) = create_at port
plain_call (code.Delete port) = delete_at port
plain_call (code.Lookup name) = lookup_of name
plain_call (code.Send port to priority bytes) = send_from port to priority bytes.now
plain_call (code.Receive port max) = receive_at port max
plain_call (code.Request port max) = request_at port max
plain_call (code.Available port) = available_at port
plain_call (code.Connect port to kind) = connect_from port to kind
plain_call (code.Open port side kind) = open_at port side kind
plain_call (code.SendPacket port bytes) = packet_from port bytes.now
plain_call (code.LendPacket port) = lend_at port
plain_call (code.RequestPacket port) = packet_request_at port
plain_call (code.Release packet) = release_of packet
plain_call (code.SendScalar port bits value) = scalar_from port bits value
plain_call (code.ReceiveScalar port bits) = scalar_at port bits
plain_call (code.Close port side) = close_at port side
plain_call (code.Test request) = test_of request
plain_call (code.Wait requests says_place) = wait_for requests.items says_place
plain_call (code.Cancel request) = cancel_of request
plain_call (code.Raw to bytes) = raw_to to bytes.now
plain_call code.Turn = turn_alone

-- what a call asks of an end of a channel
abbrev pub plain_end_call : EndCall → ends.EndCall
plain_end_call (end_code.Opens side kind) = opens side kind
plain_end_call (end_code.Sends kind) = sends kind
plain_end_call (end_code.Receives kind queued) = receives kind queued
plain_end_call (end_code.Closes side) = closes side
