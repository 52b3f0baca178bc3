use Rattle.std.proofs.Common.{◌≡◌, ◌+◌, ◌-◌, length, drop, sym, ap, ◌∙◌, arith}
use Rattle.report_text.specs.SpelledTexts.{IsFirstLine}
use Rattle.report_text.specs.TextLines.{lines_in}
use Rattle.report_text.specs.Texts.{lines_told}
use Rattle.report_text.proofs.SpelledLines.{first-told, none-told}
use Rattle.report_check.proofs.PartTexts.{left-first}
use Rattle.report_check.proofs.cursor.text_behind.Goals as goal

pub returns-in_default-clause-lines : goal.returns-in_default-clause-lines
returns-in_default-clause-lines c = λ enough.
    let none : length (lines_told c.loop-done.rest.text.now) ≡ 0 = ap (λ ls. length ls) (none-told c.loop-done.rest.text.now c.in_default.ensures.found) in
    absurd (omega (arith, enough, none, c.loop-done.invariant.told))

pub returns-in_default-clause-shorter : goal.returns-in_default-clause-shorter
returns-in_default-clause-shorter c = λ enough.
    let none : length (lines_told c.loop-done.rest.text.now) ≡ 0 = ap (λ ls. length ls) (none-told c.loop-done.rest.text.now c.in_default.ensures.found) in
    absurd (omega (arith, enough, none, c.loop-done.invariant.told))

pub loop-done-preserved : goal.loop-done-preserved
loop-done-preserved c =
    let rest = c.loop-done.rest.text.now in
    let after = c.in-Some.after.text.now in
    let first : IsFirstLine rest c.in-Some.field-0-0 after = c.in-Some.ensures.found in
    let less : c.args.lines - (c.loop-done._done + 1) ≡ c.args.lines - c.loop-done._done - 1 = omega arith in
    let told = ap (λ ls. length ls) (first-told rest c.in-Some.field-0-0 after first) in
    record {
      lines = ap (λ k. drop k (lines_in after)) less ∙ (sym (left-first (c.args.lines - c.loop-done._done) rest (first.front, after) (omega arith) first.cut) ∙ c.loop-done.invariant.lines);
      told = omega (arith, told, c.loop-done.invariant.told);
      shorter = omega (arith, c.loop-done.invariant.shorter, c.in-Some.ensures.shorter);
      spelled = c.in-Some.ensures.spelled;
    }
