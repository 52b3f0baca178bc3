use Rattle.std.proofs.Common.{◌≡◌, ◌≤◌, ℕ, ◌-◌, Bool, true, List, [], ◌∷◌, Bor, IfOk, Result, None, length, get_or, map, take, drop, subst, arith}
use Rattle.mc_base.specs.declared.fate.Fate.{Fate}
use Rattle.board_model.specs.Journal.{take_line}
use Rattle.board_model.specs.TakenFrames.{row_from}
use Rattle.board_model.specs.Deeds.{takes}
use Rattle.report_text.specs.StepPass.{due_takes}
use Rattle.report_text.proofs.LeftLemmas.{whole}
use Rattle.report_check.specs.Meeting.{LinesLeft, Meets}
use Rattle.report_check.specs.NamedStates.{GoesOn, plain}
use Rattle.report_check.specs.declared.named_state.NamedState.{NamedState}
use Rattle.report_check.specs.Doing.{TakesDone}
use Rattle.report_check.specs.ToldTurns.{frame_told}
use Rattle.report_check.proofs.VisitSteps.{takes-next}
use Rattle.report_check.proofs.turn.+take_frames.Goals as goal

abbrev frames_of : List (Bor (List ℕ)) → List (List ℕ)
frames_of lines = map (λ l. frame_told l.now) lines

by-first : {E : Type 0} (s u t : NamedState) (l m n : LinesLeft) (peer : ℕ) (fate : Fate) (lines : List (Bor (List ℕ))) (d : Bor (List ℕ)) (frame : List ℕ) (r : Result Bool E) → 1 ≤ length lines → frame ≡ frame_told (get_or lines 0 d).now → fate ≡ (row_from (plain s) peer None frame).word → GoesOn s u (takes peer None frame fate ∷ []) → Meets l m (take_line peer frame fate ∷ []) true → IfOk r (λ is. TakesDone u t m n peer (due_takes (plain u) peer (frames_of (take (length lines - 1) (drop 1 lines)))) is) → IfOk r (λ is. TakesDone s t l n peer (due_takes (plain s) peer (frames_of lines)) is)
by-first s u t l m n peer fate [] d frame r some is word at met rest = absurd (omega arith)
by-first s u t l m n peer fate (k ∷ ks) d frame r some is word at met rest =
    subst (λ f. IfOk r (λ is. TakesDone s t l n peer (due_takes (plain s) peer (f ∷ frames_of ks)) is)) is
    (takes-next s u t l m n peer frame fate (frames_of ks) r word at met
    (subst (λ js. IfOk r (λ is. TakesDone u t m n peer (due_takes (plain u) peer (frames_of js)) is)) (whole (length (k ∷ ks) - 1) ks (omega arith)) rest))

pub returns : goal.returns
returns t c =
    by-first c.args.state.now c.take.new.self c.take_frames.new.state c.args.lines.now c.meets.new.self c.take_frames.new.lines c.args.peer c.in_ok-fate.fate c.args.takes.now _ c.told_frame-frame.result.now c.take_frames.result
    (omega (arith, c.in-len1-up.len_at_least)) c.told_frame-frame.ensures c.in_ok-fate.ensures.word c.in_ok-fate.ensures.goes
    (subst (λ is. Meets c.args.lines.now c.meets.new.self (take_line c.args.peer c.told_frame-frame.result.now c.in_ok-fate.fate ∷ []) is) c.if-not-branch.false c.in_ok-meets.ensures)
    c.take_frames.ensures
