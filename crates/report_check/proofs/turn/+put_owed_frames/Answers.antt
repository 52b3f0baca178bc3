use Rattle.std.proofs.Common.{◌≡◌, ℕ, ◌-◌, ◌<◌, min, List, [], ◌∷◌, take, Some, sym, ap, ◌∙◌, subst, arith}
use Rattle.board_model.specs.Journal.{put_line}
use Rattle.board_model.specs.Deeds.{puts_owed}
use Rattle.board_model.specs.State.{peer_of}
use Rattle.board_model.specs.Change.{first_put}
use Rattle.report_check.specs.Meeting.{Meets}
use Rattle.report_check.specs.Doing.{owed_first}
use Rattle.report_check.specs.declared.named_state.NamedState.{NamedState}
use Rattle.report_check.proofs.NamedLemmas.{goes-quiet}
use Rattle.report_check.proofs.OwedPuts.{owed-one, owed-none, owed-few, free-of, peer-put}
use Rattle.report_check.proofs.VisitSteps.{puts-none, puts-missed, puts-next}
use Rattle.report_check.proofs.turn.+put_owed_frames.Goals as goal

pub returns-then-most-eq0 : goal.returns-then-most-eq0
returns-then-most-eq0 t c = λ p known.
    let few : min c.args.most p.free ≡ 0 = omega arith in
    puts-none c.args.state.now c.args.lines.now c.args.peer (owed_first c.args.most c.args.state.now.state.number p) (owed-few c.args.most c.args.state.now.state.number p few)

pub returns-then-free_to-eq0 : goal.returns-then-free_to-eq0
returns-then-free_to-eq0 t c = λ p known.
    let few : min c.args.most p.free ≡ 0 = omega (arith, c.free_to.ensures, free-of c.args.state.now.state c.args.peer p known) in
    puts-none c.args.state.now c.args.lines.now c.args.peer (owed_first c.args.most c.args.state.now.state.number p) (owed-few c.args.most c.args.state.now.state.number p few)

pub returns-in_default : goal.returns-in_default
returns-in_default t c = λ p known.
    puts-none c.args.state.now c.args.lines.now c.args.peer (owed_first c.args.most c.args.state.now.state.number p)
    (owed-none c.args.most c.args.state.now.state.number p (sym (c.in_default.ensures.frame p known)))

pub returns-then-not-branch : goal.returns-then-not-branch
returns-then-not-branch t c = λ p known.
    let frame : List ℕ = take c.in-Some.size c.owed_frame.new.out in
    let some : 0 < c.args.most = omega arith in
    let room : 0 < p.free = omega (arith, c.free_to.ensures, free-of c.args.state.now.state c.args.peer p known) in
    let owed : owed_first c.args.most c.args.state.now.state.number p ≡ frame ∷ owed_first (c.args.most - 1) c.args.state.now.state.number (first_put p) = owed-one c.args.most c.args.state.now.state.number p frame some room (sym (c.in-Some.ensures.frame p known)) in
    puts-missed c.args.state.now (record c.args.state.now { state = c.put_owed.new.self }) c.args.lines.now c.meets.new.self c.args.peer frame (owed_first c.args.most c.args.state.now.state.number p) (owed_first (c.args.most - 1) c.args.state.now.state.number (first_put p)) owed
    (subst (λ is. Meets c.args.lines.now c.meets.new.self (put_line c.args.peer frame ∷ []) is) c.if-not-branch.true c.in_ok-meets.ensures)

pub returns : goal.returns
returns t c = λ p known.
    let s : NamedState = c.args.state.now in
    let u : NamedState = record s { state = c.put_owed.new.self } in
    let frame : List ℕ = take c.in-Some.size c.owed_frame.new.out in
    let some : 0 < c.args.most = omega arith in
    let room : 0 < p.free = omega (arith, c.free_to.ensures, free-of s.state c.args.peer p known) in
    let owed : owed_first c.args.most s.state.number p ≡ frame ∷ owed_first (c.args.most - 1) s.state.number (first_put p) = owed-one c.args.most s.state.number p frame some room (sym (c.in-Some.ensures.frame p known)) in
    let put : peer_of c.put_owed.new.self c.args.peer ≡ Some (first_put p) = ap (λ x. peer_of x c.args.peer) (c.put_owed.ensures frame) ∙ peer-put s.state c.args.peer p known in
    puts-next s u c.put_owed_frames.new.state c.args.lines.now c.meets.new.self c.put_owed_frames.new.lines c.args.peer c.args.most p frame c.put_owed_frames.result (goes-quiet s c.put_owed.new.self (puts_owed c.args.peer frame) tt (c.put_owed.ensures frame)) owed
    (subst (λ is. Meets c.args.lines.now c.meets.new.self (put_line c.args.peer frame ∷ []) is) c.if-not-branch.false c.in_ok-meets.ensures)
    (c.put_owed_frames.ensures (first_put p) put)
