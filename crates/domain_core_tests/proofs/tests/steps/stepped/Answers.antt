use Rattle.domain_core.proofs.Going.{ends-go}
use Rattle.domain_core_tests.proofs.Staying.{stays}
use Rattle.domain_core_tests.proofs.tests.steps.stepped.Goals as goal

pub returns-in-Delete : goal.returns-in-Delete
returns-in-Delete g c = ends-go g.S.SendEnd.Moved g.R.RecvEnd.Moved g.met.S.SendEnd.both g.met.R.RecvEnd.both _ _ _ _ _ _ _ _ c.delete-answer.ensures.call

pub returns-in-Begin : goal.returns-in-Begin
returns-in-Begin g c = ends-go g.S.SendEnd.Moved g.R.RecvEnd.Moved g.met.S.SendEnd.both g.met.R.RecvEnd.both _ _ _ _ _ _ _ _ c.msg_recv_i-answer.ensures.call

pub returns-in-Lookup : goal.returns-in-Lookup
returns-in-Lookup g c = ends-go g.S.SendEnd.Moved g.R.RecvEnd.Moved g.met.S.SendEnd.both g.met.R.RecvEnd.both _ _ _ _ _ _ _ _ c.lookup-answer.ensures.call

pub returns-in-Available : goal.returns-in-Available
returns-in-Available g c = ends-go g.S.SendEnd.Moved g.R.RecvEnd.Moved g.met.S.SendEnd.both g.met.R.RecvEnd.both _ _ _ _ _ _ _ _ c.msg_available-answer.ensures.call

pub returns-in-Cancel : goal.returns-in-Cancel
returns-in-Cancel g c = ends-go g.S.SendEnd.Moved g.R.RecvEnd.Moved g.met.S.SendEnd.both g.met.R.RecvEnd.both _ _ _ _ _ _ _ _ c.cancel-answer.ensures.call

pub returns-in-Turn : goal.returns-in-Turn
returns-in-Turn g c = ends-go g.S.SendEnd.Moved g.R.RecvEnd.Moved g.met.S.SendEnd.both g.met.R.RecvEnd.both _ _ _ _ _ _ _ _ c.turn.ensures.call

pub returns-in-PutRaw : goal.returns-in-PutRaw
returns-in-PutRaw g c = ends-go g.S.SendEnd.Moved g.R.RecvEnd.Moved g.met.S.SendEnd.both g.met.R.RecvEnd.both _ _ _ _ _ _ _ _ c.raw_put-answer.ensures.call

pub returns-in-Connect : goal.returns-in-Connect
returns-in-Connect g c = ends-go g.S.SendEnd.Moved g.R.RecvEnd.Moved g.met.S.SendEnd.both g.met.R.RecvEnd.both _ _ _ _ _ _ _ _ c.connect-answer.ensures.call

pub returns-in-OpenSend : goal.returns-in-OpenSend
returns-in-OpenSend g c = ends-go g.S.SendEnd.Moved g.R.RecvEnd.Moved g.met.S.SendEnd.both g.met.R.RecvEnd.both _ _ _ _ _ _ _ _ c.open_send-answer.ensures.call

pub returns-in-OpenRecv : goal.returns-in-OpenRecv
returns-in-OpenRecv g c = ends-go g.S.SendEnd.Moved g.R.RecvEnd.Moved g.met.S.SendEnd.both g.met.R.RecvEnd.both _ _ _ _ _ _ _ _ c.open_recv-answer.ensures.call

pub returns-in-CloseSend : goal.returns-in-CloseSend
returns-in-CloseSend g c = ends-go g.S.SendEnd.Moved g.R.RecvEnd.Moved g.met.S.SendEnd.both g.met.R.RecvEnd.both _ _ _ _ _ _ _ _ c.close_send-answer.ensures.call

pub returns-in-CloseRecv : goal.returns-in-CloseRecv
returns-in-CloseRecv g c = ends-go g.S.SendEnd.Moved g.R.RecvEnd.Moved g.met.S.SendEnd.both g.met.R.RecvEnd.both _ _ _ _ _ _ _ _ c.close_recv-answer.ensures.call

pub returns-in-BeginPacket : goal.returns-in-BeginPacket
returns-in-BeginPacket g c = ends-go g.S.SendEnd.Moved g.R.RecvEnd.Moved g.met.S.SendEnd.both g.met.R.RecvEnd.both _ _ _ _ _ _ _ _ c.pkt_recv_i-answer.ensures.call

pub returns-in-Release : goal.returns-in-Release
returns-in-Release g c = ends-go g.S.SendEnd.Moved g.R.RecvEnd.Moved g.met.S.SendEnd.both g.met.R.RecvEnd.both _ _ _ _ _ _ _ _ c.release-answer.ensures.call

pub returns-in-SendPacket : goal.returns-in-SendPacket
returns-in-SendPacket g c = ends-go g.S.SendEnd.Moved g.R.RecvEnd.Moved g.met.S.SendEnd.both g.met.R.RecvEnd.both _ _ _ _ _ _ _ _ c.pkt_send-answer.ensures.call

pub returns-in-Ok : goal.returns-in-Ok
returns-in-Ok g c = ends-go g.S.SendEnd.Moved g.R.RecvEnd.Moved g.met.S.SendEnd.both g.met.R.RecvEnd.both _ _ _ _ _ _ _ _ c.pkt_recv.ensures.call

pub returns-in-Err : goal.returns-in-Err
returns-in-Err g c = ends-go g.S.SendEnd.Moved g.R.RecvEnd.Moved g.met.S.SendEnd.both g.met.R.RecvEnd.both _ _ _ _ _ _ _ _ c.pkt_recv.ensures.call

pub returns-in-ReceiveScalar : goal.returns-in-ReceiveScalar
returns-in-ReceiveScalar g c = ends-go g.S.SendEnd.Moved g.R.RecvEnd.Moved g.met.S.SendEnd.both g.met.R.RecvEnd.both _ _ _ _ _ _ _ _ c.scl_recv-answer.ensures.call

pub returns-in-ReadPacket : goal.returns-in-ReadPacket
returns-in-ReadPacket g c = stays g.S.SendEnd.Moved g.R.RecvEnd.Moved g.met.S.SendEnd.none g.met.R.RecvEnd.none c.args.domain.now

pub returns-in-Settled : goal.returns-in-Settled
returns-in-Settled g c = stays g.S.SendEnd.Moved g.R.RecvEnd.Moved g.met.S.SendEnd.none g.met.R.RecvEnd.none c.args.domain.now

pub returns-in-QueuedOn : goal.returns-in-QueuedOn
returns-in-QueuedOn g c = stays g.S.SendEnd.Moved g.R.RecvEnd.Moved g.met.S.SendEnd.none g.met.R.RecvEnd.none c.args.domain.now

pub returns-in-ChannelsGiven : goal.returns-in-ChannelsGiven
returns-in-ChannelsGiven g c = stays g.S.SendEnd.Moved g.R.RecvEnd.Moved g.met.S.SendEnd.none g.met.R.RecvEnd.none c.args.domain.now
