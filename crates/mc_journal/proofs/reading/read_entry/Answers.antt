use Rattle.std.proofs.Common.{◌≡◌, ◌∷◌, ◌++◌, [], List, ℕ, sym, ap, ◌∙◌}
use Rattle.std.specs.Prelude.{option_map}
use Rattle.std.proofs.lemmas.List.{append_cancel_right}
use Rattle.board_model.specs.Grammar.{spaced}
use Rattle.board_model.specs.Report.{line_words}
use Rattle.mc_journal.specs.Entry.{line_of_entry}
use Rattle.mc_journal.specs.LineForms.{line_in}
use Rattle.mc_journal.proofs.LinesRead.{line-is, line-read}
use Rattle.mc_journal.proofs.reading.read_entry.Goals as goal

pub returns-in-Some-clause-entry : goal.returns-in-Some-clause-entry
returns-in-Some-clause-entry c =
    ap (λ (xs : List ℕ). xs ++ 10 ∷ []) (line-is c.args.line.now (line_of_entry c.in-Some.entry) (sym c.entry_of.ensures ∙ ap (option_map line_of_entry) c.in-Some.is))

pub returns-in-None-clause-refused : goal.returns-in-None-clause-refused
returns-in-None-clause-refused c err l fits same =
    let text : spaced (line_words l) ≡ c.args.line.now = append_cancel_right (spaced (line_words l)) c.args.line.now (10 ∷ []) same in
    let read = sym (line-read l fits).1 ∙ ap line_in text ∙ sym c.entry_of.ensures ∙ ap (option_map line_of_entry) c.in-None.is in
    absurd cc
