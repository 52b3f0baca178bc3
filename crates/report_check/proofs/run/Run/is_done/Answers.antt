use Rattle.std.proofs.Common.{refl, sym, ap, ◌∙◌, option_map}
use Rattle.board_model.specs.Step.{call_at, is_done, is_done_now}
use Rattle.report_replay.specs.PlainCalls.{plain_call}
use Rattle.report_check.specs.NamedStates.{plain}
use Rattle.report_check.specs.Runs.{seen}
use Rattle.report_check.specs.declared.next_call.NextCall.{NextCall}
use Rattle.report_check.proofs.NamedCalls.{next-answer, next-refusal}
use Rattle.report_check.proofs.run.Run.is_done.Goals as goal

pub answer-requires : goal.answer-requires
answer-requires g c =
    let n = c.in-Some.next in
    next-refusal c.args.self.now.state.state (plain c.args.self.now.state) n.line.now.node (plain_call n.call) (call_at (seen c.args.self.now g.ls) n.line.now) refl c.in-Some.ensures.call.call n.refusal c.in-Some.ensures.call.refusal

pub returns-in-Some : goal.returns-in-Some
returns-in-Some g c =
    let n = c.in-Some.next in
    let at = seen c.args.self.now g.ls in
    c.is_done.ensures
    ∙ (ap is_done (c.answer.ensures ∙ next-answer c.args.self.now.state.state (plain c.args.self.now.state) n.line.now.node (plain_call n.call) (call_at at n.line.now) refl c.in-Some.ensures.call.call)
    ∙ ap (λ o. is_done_now o at) (ap (option_map (λ (m : NextCall). m.line.now)) (sym c.in-Some.is) ∙ c.next_call.ensures.line))
