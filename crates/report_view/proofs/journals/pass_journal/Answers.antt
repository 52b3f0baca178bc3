use Rattle.std.proofs.Common.{◌≡◌, [], ap, sym, ◌∙◌}
use Rattle.std.specs.Prelude.{option_map}
use Rattle.report_text.specs.TextLines.{lines_in}
use Rattle.report_text.specs.Texts.{lines_told, told_front}
use Rattle.report_text.proofs.TextCuts.{behind-all}
use Rattle.report_view.proofs.journals.pass_journal.Goals as goal

pub returns : goal.returns
returns c =
    let none : lines_told c.loop-after.rest.now ≡ [] = c.next_line.ensures.told ∙ ap (λ o. told_front (option_map (λ x. (x.0, x.1.now)) o)) c.in_default.is in
    sym (behind-all (lines_in c.loop-after.rest.now) none) ∙ c.loop-after.invariant
