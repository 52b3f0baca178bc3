use Rattle.std.proofs.Common.{◌≡◌, ◌∷◌, [], ◌++◌, List, ℕ, sym, ap, ◌∙◌}
use Rattle.board_model.specs.Journal.{Line}
use Rattle.board_model.specs.Report.{line_text}
use Rattle.mc_journal.specs.Entry.{line_of_entry}
use Rattle.mc_journal.specs.EntryText.{entry_text}
use Rattle.mc_journal.specs.Spelled.{spelled_line}
use Rattle.report_text.specs.TextLines.{lines_in}
use Rattle.report_check.proofs.FirstLines.{first-line, other-untold, same-behind}
use Rattle.report_check.proofs.due_lines.LineSink.behind_entry.Goals as goal

pub returns-in_default-clause-found : goal.returns-in_default-clause-found
returns-in_default-clause-found c = other-untold (line_of_entry c.args.entry) c.args.text.text.now c.entries_have_entry_lines.ensures c.in_default.ensures.found

pub returns-then-is_same-clause-found : goal.returns-then-is_same-clause-found
returns-then-is_same-clause-found c =
    let rest = c.in-Some.rest.text.now in
    first-line c.args.text.text.now c.in-Some.first rest c.in-Some.ensures.found
    ∙ ap (λ (l : Line). line_text l ∷ lines_in rest) (c.is_same.ensures c.if-is_same.true)

pub returns-in-Some-behind_line-clause-found : goal.returns-in-Some-behind_line-clause-found
returns-in-Some-behind_line-clause-found c =
    let text = c.args.text.text.now in
    let rest = c.in-Some.rest.text.now in
    let behind = lines_in c.in-Some-behind_line.field-0.now in
    let line : entry_text c.args.entry ≡ c.deref.result.now ++ 10 ∷ [] = c.in_ok-set_line.ensures ∙ ap (λ (l : List ℕ). l ++ 10 ∷ []) (sym c.deref.ensures.value) in
    same-behind (lines_in text) (entry_text c.args.entry) (line_text (spelled_line (line_of_entry c.in-Some.first))) behind (lines_in rest)
    (c.in-Some-behind_line.ensures ∙ ap (λ (l : List ℕ). l ∷ behind) (sym line))
    (first-line text c.in-Some.first rest c.in-Some.ensures.found)
