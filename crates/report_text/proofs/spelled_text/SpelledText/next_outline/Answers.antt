use Rattle.std.proofs.Common.{◌∷◌, sym, ap, ◌∙◌}
use Rattle.report_text.specs.Texts.{lines_told}
use Rattle.report_text.proofs.SpelledLines.{first-behind, first-told, none-told}
use Rattle.report_text.proofs.spelled_text.SpelledText.next_outline.Goals as goal

pub returns-in_err-entry-clause-told : goal.returns-in_err-entry-clause-told
returns-in_err-entry-clause-told c = rw c.from_residual.ensures (none-told c.args.self.text.now c.in_err-entry.ensures.found)

pub returns-clause-told : goal.returns-clause-told
returns-clause-told c =
    first-told c.args.self.text.now c.in_ok-entry.entry c.in_ok-entry.after.text.now c.in_ok-entry.ensures.found
    ∙ ap (λ o. o ∷ lines_told c.in_ok-entry.after.text.now) (sym c.outline.ensures)

pub returns-clause-behind : goal.returns-clause-behind
returns-clause-behind c = first-behind c.args.self.text.now c.in_ok-entry.entry c.in_ok-entry.after.text.now c.in_ok-entry.ensures.found
