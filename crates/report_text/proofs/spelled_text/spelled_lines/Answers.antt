use Rattle.std.proofs.Common.{◌≡◌, ◌++◌, List, [], true, not, sym, ap, subst, ◌∙◌, arith, append-nil}
use Rattle.std.specs.Prelude.{is_ok}
use Rattle.report_text.specs.SpelledTexts.{AreSpelled}
use Rattle.report_text.specs.declared.spelled_text.SpelledLine.{SpelledLine}
use Rattle.report_text.proofs.SpelledLines.{read-more}
use Rattle.report_text.proofs.spelled_text.spelled_lines.Goals as goal

pub loop-entry-preserved : goal.loop-entry-preserved
loop-entry-preserved c =
    let ok : is_ok c.push.result ≡ true = c.is_err.ensures.negation ∙ ap not c.if-is_err.false in
    let items = rw ok at c.push.ensures.items in
    record {
      lines = λ ls are.
          subst (λ (all : List SpelledLine). AreSpelled c.args.text.now (all ++ ls)) (sym items)
          (read-more c.args.text.now c.loop-entry.rest.now c.in-Some.after.now c.loop-entry.lines.items c.in-Some.entry _ c.in-Some.ensures.found (omega (arith, c.in-Some.ensures.shorter)) c.loop-entry.invariant.shorter c.loop-entry.invariant.lines ls are);
      shorter = omega (arith, c.in-Some.ensures.shorter, c.loop-entry.invariant.shorter);
    }

pub returns : goal.returns
returns c = subst (AreSpelled c.args.text.now) (append-nil c.loop-entry.lines.items) (c.loop-entry.invariant.lines [] c.in_default.ensures.found)
