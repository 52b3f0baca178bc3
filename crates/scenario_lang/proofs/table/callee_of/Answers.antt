use Rattle.std.proofs.Common.{◌≡◌, ◌∙◌, sym, false}
use Rattle.std.specs.Prelude.{bytes_eq}
use Rattle.board_model.specs.Forms.{callees}
use Rattle.scenario_lang.proofs.TableLemmas.{among_next}
use Rattle.scenario_lang.proofs.table.callee_of.Goals as goal

pub loop-callee-preserved : goal.loop-callee-preserved
loop-callee-preserved c =
    let apart : bytes_eq c.args.word.now c.row_of.result.word.now ≡ false = sym c.eq.ensures ∙ c.if-eq.false in
    let other = rw c.row_of.ensures.word at apart in
    sym (among_next callees c.loop-callee.callee-index c.args.word.now _ c.loop-callee-test.true other) ∙ c.loop-callee.invariant
