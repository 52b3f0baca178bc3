use Rattle.std.proofs.Common.{sym, ap, ◌∙◌}
use Rattle.board_model.specs.Step.{RunState, call_at}
use Rattle.report_check.proofs.NamedCalls.{next-answer, next-refusal}
use Rattle.report_replay.specs.PlainCalls.{plain_call}
use Rattle.report_check.proofs.CallLines.{other-due, wait-lines}
use Rattle.report_check.proofs.run.Run.meets_call.Goals as goal

pub answer-requires : goal.answer-requires
answer-requires g c =
    let line = c.args.next.now.line.now in
    next-refusal c.args.self.now.state.state g.r.state line.node (plain_call c.args.next.now.call) (call_at g.r line) (ap (λ (r : RunState). r.state) c.requires.0) c.requires.1.1.1.0.call c.args.next.now.refusal c.requires.1.1.1.0.refusal

pub returns-in-Some : goal.returns-in-Some
returns-in-Some g c =
    let line = c.args.next.now.line.now in
    let answer = c.answer.ensures ∙ next-answer c.args.self.now.state.state g.r.state line.node (plain_call c.args.next.now.call) (call_at g.r line) (ap (λ (r : RunState). r.state) c.requires.0) c.requires.1.1.1.0.call in
    let limit = sym c.limit_of.ensures ∙ c.in-Some.is in
    other-due _ _ _ (c.due_in_wait.ensures g.r c.args.times c.requires.0 ∙ wait-lines c.args.times c.in-Some.limit line g.r _ limit answer) c.meets_one.ensures
