use Rattle.std.proofs.Common.{◌≡◌, ◌≤◌, ◌-◌, min, true, false, take, map, sym, ap, ◌∙◌, subst, arith}
use Rattle.std.proofs.lemmas.List.{take-map}
use Rattle.mc_base.specs.Limits.{turn_limit}
use Rattle.board_model.specs.Journal.{Visit, back_line, see_line, looked}
use Rattle.board_model.specs.Deeds.{looks_ahead, looks_back}
use Rattle.board_model.specs.State.{held_from}
use Rattle.board_model.specs.Unjoined.{visit_in}
use Rattle.report_text.specs.StepPass.{due_back, due_see, frames_coming}
use Rattle.report_check.specs.Meeting.{Meets}
use Rattle.report_check.specs.Doing.{PutsDone, owed_first}
use Rattle.report_check.specs.ToldTurns.{frame_told}
use Rattle.report_check.specs.declared.named_state.NamedState.{NamedState}
use Rattle.report_check.proofs.NamedLemmas.{goes-quiet}
use Rattle.report_check.proofs.VisitSteps.{back-missed, owed-missed, ahead-missed, code-puts, code-sees, code-takes, coming-less}
use Rattle.board_model.proofs.UnnamedCounts.{held-unnamed}
use Rattle.report_check.proofs.turn.visit.Goals as goal

pub returns-then-not-branch : goal.returns-then-not-branch
returns-then-not-branch c = λ ls p told known.
    let v : Visit = visit_in ls c.args.peer in
    let back : c.look_back-back.result ≡ due_back p v.back = c.look_back-back.ensures.count p known ∙ ap (λ n. min n (p.size - p.free)) told.back in
    back-missed c.args.state.now v p known (record c.args.state.now { state = c.look_back-back.new.self }) c.args.lines.now c.meets_look.new.lines
    (subst (λ n. Meets c.args.lines.now c.meets_look.new.lines (looked (back_line c.args.peer) n) false) back
    (subst (λ is. Meets c.args.lines.now c.meets_look.new.lines (looked (back_line c.args.peer) c.look_back-back.result) is) c.if-not-branch.true c.in_ok-meets_look.ensures))

pub returns-then-not-branch-2 : goal.returns-then-not-branch-2
returns-then-not-branch-2 c = λ ls p told known.
    let s : NamedState = c.args.state.now in
    let u : NamedState = record s { state = c.look_back-back.new.self } in
    let v : Visit = visit_in ls c.args.peer in
    let back : c.look_back-back.result ≡ due_back p v.back = c.look_back-back.ensures.count p known ∙ ap (λ n. min n (p.size - p.free)) told.back in
    let first = code-puts s v p known c.look_back-back.result u c.put_owed_frames.new.state c.args.lines.now c.meets_look.new.lines c.put_owed_frames.new.lines false back (goes-quiet s c.look_back-back.new.self (looks_back c.args.peer c.look_back-back.result) tt c.look_back-back.ensures.state)
    (subst (λ is. Meets c.args.lines.now c.meets_look.new.lines (looked (back_line c.args.peer) c.look_back-back.result) is) c.if-not-branch.false c.in_ok-meets_look.ensures)
    (λ q at. subst (λ is. PutsDone u c.put_owed_frames.new.state c.meets_look.new.lines c.put_owed_frames.new.lines c.args.peer (owed_first turn_limit u.state.number q) is) c.if-not-branch-2.true (c.in_ok-put_owed_frames.ensures q at)) in
    owed-missed s v p known u c.put_owed_frames.new.state c.args.lines.now c.meets_look.new.lines c.put_owed_frames.new.lines first.0 first.1 first.2

pub returns-then-not-branch-3 : goal.returns-then-not-branch-3
returns-then-not-branch-3 c = λ ls p told known.
    let s : NamedState = c.args.state.now in
    let u : NamedState = record s { state = c.look_back-back.new.self } in
    let v : Visit = visit_in ls c.args.peer in
    let back : c.look_back-back.result ≡ due_back p v.back = c.look_back-back.ensures.count p known ∙ ap (λ n. min n (p.size - p.free)) told.back in
    let first = code-puts s v p known c.look_back-back.result u c.put_owed_frames.new.state c.args.lines.now c.meets_look.new.lines c.put_owed_frames.new.lines true back (goes-quiet s c.look_back-back.new.self (looks_back c.args.peer c.look_back-back.result) tt c.look_back-back.ensures.state)
    (subst (λ is. Meets c.args.lines.now c.meets_look.new.lines (looked (back_line c.args.peer) c.look_back-back.result) is) c.if-not-branch.false c.in_ok-meets_look.ensures)
    (λ q at. subst (λ is. PutsDone u c.put_owed_frames.new.state c.meets_look.new.lines c.put_owed_frames.new.lines c.args.peer (owed_first turn_limit u.state.number q) is) c.if-not-branch-2.false (c.in_ok-put_owed_frames.ensures q at)) in
    let see = code-sees s v p known c.look_ahead-see.result u c.put_owed_frames.new.state c.meets_look.new.lines c.put_owed_frames.new.lines first.1 first.2
    (λ q at. c.look_ahead-see.ensures.count q at ∙ (ap (λ n. due_see q (held_from c.args.peer c.put_owed_frames.new.state.state) n) told.see ∙ ap (λ h. due_see q h v.see) (sym (held-unnamed c.args.peer c.put_owed_frames.new.state.state)))) in
    ahead-missed s v p known u c.put_owed_frames.new.state (record c.put_owed_frames.new.state { state = c.look_ahead-see.new.self }) c.args.lines.now c.meets_look.new.lines c.put_owed_frames.new.lines c.meets_look-2.new.lines first.0 first.1 first.2
    (subst (λ n. Meets c.put_owed_frames.new.lines c.meets_look-2.new.lines (looked (see_line c.args.peer) n) false) see
    (subst (λ is. Meets c.put_owed_frames.new.lines c.meets_look-2.new.lines (looked (see_line c.args.peer) c.look_ahead-see.result) is) c.if-not-branch-3.true c.in_ok-meets_look-2.ensures))

pub returns : goal.returns
returns c = λ ls p told known.
    let s : NamedState = c.args.state.now in
    let u : NamedState = record s { state = c.look_back-back.new.self } in
    let v : Visit = visit_in ls c.args.peer in
    let back : c.look_back-back.result ≡ due_back p v.back = c.look_back-back.ensures.count p known ∙ ap (λ n. min n (p.size - p.free)) told.back in
    let first = code-puts s v p known c.look_back-back.result u c.put_owed_frames.new.state c.args.lines.now c.meets_look.new.lines c.put_owed_frames.new.lines true back (goes-quiet s c.look_back-back.new.self (looks_back c.args.peer c.look_back-back.result) tt c.look_back-back.ensures.state)
    (subst (λ is. Meets c.args.lines.now c.meets_look.new.lines (looked (back_line c.args.peer) c.look_back-back.result) is) c.if-not-branch.false c.in_ok-meets_look.ensures)
    (λ q at. subst (λ is. PutsDone u c.put_owed_frames.new.state c.meets_look.new.lines c.put_owed_frames.new.lines c.args.peer (owed_first turn_limit u.state.number q) is) c.if-not-branch-2.false (c.in_ok-put_owed_frames.ensures q at)) in
    let see = code-sees s v p known c.look_ahead-see.result u c.put_owed_frames.new.state c.meets_look.new.lines c.put_owed_frames.new.lines first.1 first.2
    (λ q at. c.look_ahead-see.ensures.count q at ∙ (ap (λ n. due_see q (held_from c.args.peer c.put_owed_frames.new.state.state) n) told.see ∙ ap (λ h. due_see q h v.see) (sym (held-unnamed c.args.peer c.put_owed_frames.new.state.state)))) in
    let count : c.min.result ≡ min turn_limit c.look_ahead-see.result = omega arith in
    let few : min turn_limit c.look_ahead-see.result ≤ turn_limit = omega arith in
    let coming : map (λ l. frame_told l.now) (take c.min.result c.args.told.now.takes) ≡ frames_coming (min turn_limit c.look_ahead-see.result) (map (λ x. x.frame) v.takes) =
    sym (take-map (λ l. frame_told l.now) c.min.result c.args.told.now.takes)
    ∙ (ap (take c.min.result) told.frames
    ∙ (ap (λ n. take n (frames_coming turn_limit (map (λ x. x.frame) v.takes))) count
    ∙ coming-less (min turn_limit c.look_ahead-see.result) turn_limit turn_limit (min turn_limit c.look_ahead-see.result) (map (λ x. x.frame) v.takes) few few (omega arith))) in
    code-takes s v p known c.look_ahead-see.result u c.put_owed_frames.new.state (record c.put_owed_frames.new.state { state = c.look_ahead-see.new.self }) c.take_frames.new.state c.args.lines.now c.meets_look.new.lines c.put_owed_frames.new.lines c.meets_look-2.new.lines c.take_frames.new.lines (map (λ l. frame_told l.now) (take c.min.result c.args.told.now.takes)) c.take_frames.result first.0 first.1 first.2 see
    (subst (λ is. Meets c.put_owed_frames.new.lines c.meets_look-2.new.lines (looked (see_line c.args.peer) c.look_ahead-see.result) is) c.if-not-branch-3.false c.in_ok-meets_look-2.ensures)
    (goes-quiet c.put_owed_frames.new.state c.look_ahead-see.new.self (looks_ahead c.args.peer c.look_ahead-see.result) tt c.look_ahead-see.ensures.state) coming
    c.take_frames.ensures
