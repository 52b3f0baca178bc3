use Rattle.std.proofs.Common.{refl, sym, ◌∙◌}
use Rattle.report_replay.specs.PlainCalls.{plain_call}
use Rattle.report_check.proofs.NamedCalls.{own-named}
use Rattle.report_check.proofs.NamedLemmas.{goes-call, on-done}
use Rattle.board_model.proofs.RenamedCalls.{refusal-renamed}
use Rattle.board_model.specs.Unnamed.{no_names}
use Rattle.report_check.proofs.named_state.NamedState.succeed.Goals as goal

pub succeed-requires-clause-succeeds : goal.succeed-requires-clause-succeeds
succeed-requires-clause-succeeds c = sym (refusal-renamed no_names c.args.self.now.state c.args.node (plain_call c.args.call.now)) ∙ c.requires.succeeds

pub succeed-requires-clause-own : goal.succeed-requires-clause-own
succeed-requires-clause-own c = own-named c.args.self.now.state c.requires.own

pub returns : goal.returns
returns c a = on-done c.succeed.result (λ is. goes-call c.args.self.now _ c.args.node (plain_call c.args.call.now) c.requires.succeeds is a refl c.in_ok-note_returned.ensures) c.succeed.ensures
