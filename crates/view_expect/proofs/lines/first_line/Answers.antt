use Rattle.std.proofs.Common.{◌≡◌, ℕ, List, ◌∷◌, Some, None, sym, ap, subst, ◌∙◌, arith}
use Rattle.std.specs.Prelude.{option_map}
use Rattle.mc_journal.specs.Readers.{cut_at}
use Rattle.report_text.specs.TextLines.{lines_in}
use Rattle.report_text.proofs.TextCuts.{longest-cut}
use Rattle.view_expect.proofs.LineLemmas.{line-front, line-whole}
use Rattle.view_expect.proofs.lines.first_line.Goals as goal

pub returns-in-Some-clause-lines : goal.returns-in-Some-clause-lines
returns-in-Some-clause-lines c =
    let cut : cut_at 10 c.args.text.now ≡ Some _ = sym c.cut.ensures.value ∙ ap (option_map _) c.in-Some.is in
    subst (λ (l : List ℕ). lines_in c.args.text.now ≡ l ∷ lines_in c.in-Some.after.now) (sym c.split_at.ensures.front)
    (line-front c.args.text.now _ cut)

pub returns-in-Some-clause-fits : goal.returns-in-Some-clause-fits
returns-in-Some-clause-fits c =
    let cut : cut_at 10 c.args.text.now ≡ Some _ = sym c.cut.ensures.value ∙ ap (option_map _) c.in-Some.is in
    omega (arith, longest-cut c.args.text.now _ cut)

pub returns-in-None-clause-lines : goal.returns-in-None-clause-lines
returns-in-None-clause-lines c =
    let none : cut_at 10 c.args.text.now ≡ None = sym c.cut.ensures.value ∙ ap (option_map _) c.in-None.is in
    line-whole c.args.text.now c.requires none
