use Rattle.std.proofs.Common.{◌≡◌, ap, sym, ◌∙◌, bytes_eq}
use Rattle.std.proofs.lemmas.Slice.Eq.{bytes_eq-Decides}
use Rattle.report_text.specs.TextLines.{first_other, lines_in}
use Rattle.report_text.proofs.LinesTold.{first-same}
use Rattle.report_text.proofs.scenario.other_line.Goals as goal

pub returns-then-is_same-clause-value : goal.returns-then-is_same-clause-value
returns-then-is_same-clause-value c =
    let same : c.args.one.now ≡ c.args.two.now = (bytes_eq-Decides c.args.one.now c.args.two.now).0 (sym c.is_same.ensures ∙ c.if-is_same.true) in
    sym (ap (λ x. first_other (lines_in c.args.one.now) (lines_in x)) (sym same) ∙ first-same (lines_in c.args.one.now))
