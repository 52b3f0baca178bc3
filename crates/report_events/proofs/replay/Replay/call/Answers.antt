use Rattle.report_replay.specs.PlainCalls.{plain_call}
use Rattle.report_replay.proofs.OwnAddresses.{own-addresses-apart}
use Rattle.report_events.proofs.EndsKept.{ends_called}
use Rattle.report_events.proofs.replay.Replay.call.Goals as goal

pub succeed-requires-clause-own : goal.succeed-requires-clause-own
succeed-requires-clause-own c = own-addresses-apart _ c.requires

pub returns : goal.returns
returns c = ends_called _ _ c.args.line.now.node (plain_call c.call_of-call.result) c.in_ok-succeed.ensures c.requires
