use Rattle.std.proofs.Common.{◌≡◌, ◌<◌, length, get_or, take, ap, sym, ◌∙◌, arith, subst, refl, List, ℕ}
use Rattle.std.proofs.Math.Seq.{take-length}
use Rattle.outer_io.proofs.Writing.{puts_nothing, puts_then}
use Rattle.outer_io.specs.Puts.{Puts}
use Rattle.board_model.specs.Scenario.{rising}
use Rattle.board_model.specs.Report.{journals_text}
use Rattle.board_model.proofs.BoardsNeighbours.{rising-length}
use Rattle.board_numbers.specs.Lanes.{numbers_of}
use Rattle.board_numbers.proofs.BoardLemmas.{numbers-length}
use Rattle.board_runner.specs.Outcome.{lines_in}
use Rattle.board_runner.proofs.ReportLemmas.{journals-more}
use Rattle.board_runner.proofs.report.put_journals.Goals as goal

pub loop-at-init : goal.loop-at-init
loop-at-init g c = puts_nothing g.K.Sink c.args.out.now

pub bounds-journals-at : goal.bounds-journals-at
bounds-journals-at g c =
    omega (arith, c.loop-at-test.true, c.len-at-end.ensures.value, ap length c.rising_numbers-numbers.ensures, numbers-length c.args.scenario.now, c.requires.one_each)

pub loop-at-preserved : goal.loop-at-preserved
loop-at-preserved g c =
    let s = c.args.scenario.now in
    let js = c.args.journals.now in
    let at = c.loop-at.at in
    let within : at < length (numbers_of s) = omega (arith, c.loop-at-test.true, c.len-at-end.ensures.value, ap length c.rising_numbers-numbers.ensures) in
    let read = ap (λ (ns : List ℕ). get_or ns at 0) (c.deref.ensures.0 ∙ c.rising_numbers-numbers.ensures) in
    let more = journals-more (rising s) js at (get_or (numbers_of s) at 0) 0 c.index-journals-at.result (c.requires.one_each ∙ sym (rising-length s)) within refl c.index-journals-at.is in
    rw more (puts_then g.K.Sink _ _ _ _ _ c.loop-at.invariant (rw read at c.put_journal.ensures))

pub returns : goal.returns
returns g c =
    let s = c.args.scenario.now in
    let js = c.args.journals.now in
    let end = c.loop-at-test.false in
    let here = c.loop-at.auto.at-end in
    let all : c.loop-at.at ≡ length (rising s) = omega (arith, end, here, c.len-at-end.ensures.value, ap length c.rising_numbers-numbers.ensures, numbers-length s, rising-length s) in
    let same : c.loop-at.at ≡ length js = omega (arith, all, c.requires.one_each, rising-length s) in
    let lines : take c.loop-at.at (rising s) ≡ rising s = ap (λ k. take k (rising s)) all ∙ take-length (rising s) in
    let told : take c.loop-at.at js ≡ js = ap (λ k. take k js) same ∙ take-length js in
    subst (λ ds. Puts g.K.Sink c.args.out.now c.loop-at.out (journals_text ds (lines_in js))) lines
    (subst (λ ws. Puts g.K.Sink c.args.out.now c.loop-at.out (journals_text (take c.loop-at.at (rising s)) (lines_in ws))) told c.loop-at.invariant)
