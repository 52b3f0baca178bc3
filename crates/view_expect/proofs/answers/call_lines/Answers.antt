use Rattle.std.proofs.Common.{◌≡◌, ℕ, List, [], ◌++◌, sym, ap, ◌∙◌, append-nil}
use Rattle.std.specs.Prelude.{option_map}
use Rattle.report_text.specs.TextLines.{lines_in}
use Rattle.report_text.specs.Texts.{lines_told, told_front}
use Rattle.view_expect.specs.Answers.{call_texts, calls_in}
use Rattle.view_expect.proofs.CallTexts.{told-none}
use Rattle.view_expect.proofs.answers.call_lines.Goals as goal

pub returns : goal.returns
returns c =
    let none : lines_told c.loop-line.rest.now ≡ [] = c.next_line.ensures.told ∙ ap (λ o. told_front (option_map (λ x. (x.0, x.1.now)) o)) c.in_default.is in
    sym (append-nil (call_texts c.loop-line.lines.items))
    ∙ ap (λ (ts : List (List ℕ)). call_texts c.loop-line.lines.items ++ calls_in ts) (sym (told-none (lines_in c.loop-line.rest.now) none))
    ∙ c.loop-line.invariant
