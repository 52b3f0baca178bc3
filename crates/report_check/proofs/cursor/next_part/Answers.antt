use Rattle.std.proofs.Common.{◌≡◌, [], ap, ◌∙◌}
use Rattle.std.specs.Prelude.{option_map}
use Rattle.report_text.specs.Texts.{lines_told, told_front}
use Rattle.report_check.specs.PartOutlines.{part_size}
use Rattle.report_check.proofs.NextLemmas.{nothing-told, found}
use Rattle.report_check.proofs.cursor.next_part.Goals as goal

pub returns-in_err-first-clause-found : goal.returns-in_err-first-clause-found
returns-in_err-first-clause-found c = λ peers script puts begins.
    let none : lines_told c.args.text.text.now ≡ [] = c.next_outline.ensures.told ∙ ap (λ o. told_front (option_map (λ x. (x.0, x.1.text.now)) o)) c.in_err-first.was in
    rw c.from_residual.ensures (nothing-told c.args.text.text.now none)

pub returns-clause-found : goal.returns-clause-found
returns-clause-found c = λ peers script puts begins.
    let first = c.in_ok-first.first in
    let after = c.in_ok-first.after in
    found peers script c.args.text.text.now first (lines_told after.text.now) c.head_of.result c.part_lines-lines.result c.text_behind.result begins c.in_ok-first.ensures.told c.head_of.ensures
    (c.part_lines-lines.ensures ∙ ap (λ ps. part_size ps first (lines_told after.text.now)) puts) c.text_behind.ensures.lines c.text_behind.ensures.shorter
