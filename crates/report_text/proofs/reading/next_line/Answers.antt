use Rattle.std.proofs.Common.{◌≡◌, ap, sym, ◌∙◌, Option, Some, None, arith}
use Rattle.std.specs.Prelude.{option_map}
use Rattle.mc_journal.specs.Readers.{cut_at}
use Rattle.report_text.specs.declared.outline.Outline.{Outline}
use Rattle.report_text.specs.TextLines.{lines_in}
use Rattle.report_text.specs.Outlines.{told_first, all_or}
use Rattle.report_text.specs.Texts.{lines_told, lines_behind}
use Rattle.report_text.proofs.TextCuts.{told-cut, told-uncut, behind-cut, longest-cut}
use Rattle.report_text.proofs.reading.next_line.Goals as goal

pub returns-in_err-line-clause-told : goal.returns-in_err-line-clause-told
returns-in_err-line-clause-told c =
    let none : cut_at 10 c.args.text.now ≡ None = sym c.cut.ensures.value ∙ ap (option_map _) c.in_err-line.was in
    rw c.from_residual.ensures (told-uncut c.args.text.now none)

pub returns-in_err-read_outline-clause-told : goal.returns-in_err-read_outline-clause-told
returns-in_err-read_outline-clause-told c =
    let cut : cut_at 10 c.args.text.now ≡ Some (c.in_ok-line.line.now, c.in_ok-line.after.now) = sym c.cut.ensures.value ∙ ap (option_map _) c.in_ok-line.was in
    rw c.from_residual-in_err-read_outline.ensures
    (told-cut c.args.text.now (c.in_ok-line.line.now, c.in_ok-line.after.now) cut ∙ ap (λ (o : Option Outline). told_first o (lines_told c.in_ok-line.after.now)) (sym c.read_outline.ensures ∙ c.in_err-read_outline.was))

pub returns-clause-told : goal.returns-clause-told
returns-clause-told c =
    let cut : cut_at 10 c.args.text.now ≡ Some (c.in_ok-line.line.now, c.in_ok-line.after.now) = sym c.cut.ensures.value ∙ ap (option_map _) c.in_ok-line.was in
    told-cut c.args.text.now (c.in_ok-line.line.now, c.in_ok-line.after.now) cut
    ∙ ap (λ (o : Option Outline). told_first o (lines_told c.in_ok-line.after.now)) (sym c.read_outline.ensures ∙ c.in_ok-read_outline.was)

pub returns-clause-fits : goal.returns-clause-fits
returns-clause-fits c =
    let cut : cut_at 10 c.args.text.now ≡ Some (c.in_ok-line.line.now, c.in_ok-line.after.now) = sym c.cut.ensures.value ∙ ap (option_map _) c.in_ok-line.was in
    omega (arith, longest-cut c.args.text.now (c.in_ok-line.line.now, c.in_ok-line.after.now) cut)

pub returns-clause-behind : goal.returns-clause-behind
returns-clause-behind c =
    let cut : cut_at 10 c.args.text.now ≡ Some (c.in_ok-line.line.now, c.in_ok-line.after.now) = sym c.cut.ensures.value ∙ ap (option_map _) c.in_ok-line.was in
    sym (behind-cut c.args.text.now (c.in_ok-line.line.now, c.in_ok-line.after.now) cut
    ∙ ap (λ (o : Option Outline). all_or o (lines_in c.args.text.now) (lines_behind c.in_ok-line.after.now)) (sym c.read_outline.ensures ∙ c.in_ok-read_outline.was))
