use Rattle.std.proofs.Common.{sym, subst}
use Rattle.board_model.specs.CallChanges.{success_changes}
use Rattle.board_model.proofs.StateEnds.{Ends, ends-all}
use Rattle.report_replay.specs.PlainCalls.{plain_call}
use Rattle.report_replay.proofs.OwnAddresses.{own-addresses-apart}
use Rattle.report_replay_tests.proofs.returned.make.Goals as goal

pub succeed-requires-clause-own : goal.succeed-requires-clause-own
succeed-requires-clause-own c = own-addresses-apart c.args.state.now c.requires

pub returns : goal.returns
returns c = subst Ends (sym c.in_ok-succeed.ensures) (ends-all c.args.state.now (success_changes c.args.state.now 0 (plain_call c.args.call.now)) c.requires)
