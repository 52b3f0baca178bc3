use Rattle.std.proofs.Common.{◌≡◌, ℕ, List, length, ap, sym, subst, ◌∙◌}
use Rattle.board_model.specs.Answer.{puts}
use Rattle.board_model.specs.Step.{RunState, call_at}
use Rattle.mc_journal.specs.Entry.{plain_answer}
use Rattle.report_replay.specs.PlainCalls.{plain_call}
use Rattle.report_text.specs.StepPass.{due_answer as answer_due}
use Rattle.report_check.specs.Meeting.{Meets}
use Rattle.report_check.specs.Runs.{lines_put, times_behind as times_with, told_by}
use Rattle.report_check.proofs.CallLines.{behind-missed, behind-then}
use Rattle.report_check.proofs.NamedCalls.{next-answer, next-puts, next-refusal}
use Rattle.report_check.proofs.run.Run.meets_behind.Goals as goal

pub count_puts-puts-requires : goal.count_puts-puts-requires
count_puts-puts-requires g c =
    let line = c.args.next.now.line.now in
    next-refusal c.args.self.now.state.state g.r.state line.node (plain_call c.args.next.now.call) (call_at g.r line) (ap (λ (r : RunState). r.state) c.requires.0) c.requires.1.1.1.0.call c.args.next.now.refusal c.requires.1.1.1.0.refusal

pub meets_puts-requires-clause-refusal : goal.meets_puts-requires-clause-refusal
meets_puts-requires-clause-refusal g c =
    let line = c.args.next.now.line.now in
    next-refusal c.args.self.now.state.state g.r.state line.node (plain_call c.args.next.now.call) (call_at g.r line) (ap (λ (r : RunState). r.state) c.requires.0) c.requires.1.1.1.0.call c.args.next.now.refusal c.requires.1.1.1.0.refusal

pub answer-answer-requires : goal.answer-answer-requires
answer-answer-requires g c =
    let line = c.args.next.now.line.now in
    next-refusal c.args.self.now.state.state g.r.state line.node (plain_call c.args.next.now.call) (call_at g.r line) (ap (λ (r : RunState). r.state) c.requires.0) c.requires.1.1.1.0.call c.args.next.now.refusal c.requires.1.1.1.0.refusal

pub returns-then-not-branch : goal.returns-then-not-branch
returns-then-not-branch g c =
    let line = c.args.next.now.line.now in
    let s = c.args.self.now.state.state in
    let ps = puts s line.node (plain_call c.args.next.now.call) in
    let same = next-puts s g.r.state line.node (plain_call c.args.next.now.call) (call_at g.r line) (ap (λ (r : RunState). r.state) c.requires.0) c.requires.1.1.1.0.call in
    behind-missed c.args.lines.now c.meets_puts.new.lines ps c.args.times line g.r same
    (subst (λ is. Meets c.args.lines.now c.meets_puts.new.lines (lines_put ps) is) c.if-not-branch.true c.in_ok-meets_puts.ensures)

pub returns : goal.returns
returns g c =
    let line = c.args.next.now.line.now in
    let s = c.args.self.now.state.state in
    let ps = puts s line.node (plain_call c.args.next.now.call) in
    let state = ap (λ (r : RunState). r.state) c.requires.0 in
    let same = next-puts s g.r.state line.node (plain_call c.args.next.now.call) (call_at g.r line) state c.requires.1.1.1.0.call in
    let answer = c.answer-answer.ensures ∙ next-answer s g.r.state line.node (plain_call c.args.next.now.call) (call_at g.r line) state c.requires.1.1.1.0.call in
    let entry =
    c.due_answer-entry.ensures g.r c.requires.0
    ∙ ap (λ t. told_by t (answer_due line g.r (plain_answer c.answer-answer.result))) (c.times_behind.ensures ∙ ap (λ (n : ℕ). times_with n c.args.times) c.count_puts-puts.ensures)
    ∙ ap (λ a. told_by (times_with (length ps) c.args.times) (answer_due line g.r a)) answer in
    behind-then c.args.lines.now c.meets_puts.new.lines ps c.args.times line g.r same c.meets.new.self c.meets.result _ entry
    (subst (λ is. Meets c.args.lines.now c.meets_puts.new.lines (lines_put ps) is) c.if-not-branch.false c.in_ok-meets_puts.ensures) c.meets.ensures
