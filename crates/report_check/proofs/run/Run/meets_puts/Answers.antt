use Rattle.std.proofs.Common.{◌≡◌, ◌<◌, ◌+◌, ◌∙◌, ℕ, List, [], ◌∷◌, None, Some, ap, refl, arith, length, subst, suc, sym, take, true, false}
use Rattle.std.specs.Prelude.{option_map, slice_get}
use Rattle.board_model.specs.Answer.{puts}
use Rattle.board_model.specs.Journal.{put_line}
use Rattle.report_replay.specs.PlainCalls.{plain_call}
use Rattle.report_check.specs.Meeting.{LinesLeft, Meets}
use Rattle.report_check.specs.Runs.{lines_put}
use Rattle.report_check.proofs.CallLines.{none-left, puts-met, puts-missed}
use Rattle.report_check.proofs.run.Run.meets_puts.Goals as goal
use Rattle.report_check.proofs.run.Run.meets_puts.Goals.{in-Some+in_ok-meets+else-not-branch, in_default}

pub returns-then-not-branch : goal.returns-then-not-branch
returns-then-not-branch c =
    let ps = puts c.args.self.now.state.state c.args.next.now.line.now.node (plain_call c.args.next.now.call) in
    let p : ℕ × List ℕ = (c.in-Some.peer, take c.in-Some.size c.put.new.out) in
    puts-missed ps c.loop-n.n (suc c.loop-n.n) p refl (sym c.in-Some.ensures.put) c.args.lines.now c.loop-n.lines c.meets.new.self c.loop-n.invariant
    (subst (λ is. Meets c.loop-n.lines c.meets.new.self (put_line p.0 p.1 ∷ []) is) c.if-not-branch.true c.in_ok-meets.ensures)

pub loop-n-preserved : goal.loop-n-preserved
loop-n-preserved c =
    let ps = puts c.args.self.now.state.state c.args.next.now.line.now.node (plain_call c.args.next.now.call) in
    let next : c.loop-n.n + 1 ≡ suc c.loop-n.n = omega arith in
    elim c.match-put.branch [
      | in-Some+in_ok-meets+else-not-branch w ↦
          let p : ℕ × List ℕ = (w.in-Some.peer, take w.in-Some.size c.put.new.out) in
          subst (λ (l : LinesLeft). Meets c.args.lines.now l (lines_put (take (c.loop-n.n + 1) ps)) true) (sym w.lines-is)
          (puts-met ps c.loop-n.n (c.loop-n.n + 1) p next (sym w.in-Some.ensures.put) c.args.lines.now c.loop-n.lines w.meets.new.self c.loop-n.invariant
          (subst (λ is. Meets c.loop-n.lines w.meets.new.self (put_line p.0 p.1 ∷ []) is) w.if-not-branch.false w.in_ok-meets.ensures))
      | in_default w ↦
          absurd (none-left ps c.loop-n.n w.in_default.ensures.put (subst (λ k. c.loop-n.n < k) c.requires.count c.loop-n-test.true))
    ]
