use Rattle.std.proofs.Common.{◌≡◌, ap, sym, ◌∙◌, ◌∷◌, [], ◌++◌, List, ℕ, Option, Some, None, refl, arith}
use Rattle.std.specs.Prelude.{option_map}
use Rattle.std.proofs.Math.ListN.{length-append}
use Rattle.std.proofs.lemmas.List.{append_cancel_right}
use Rattle.board_model.specs.Grammar.{spaced}
use Rattle.board_model.specs.Journal.{Line}
use Rattle.board_model.specs.Report.{line_words}
use Rattle.mc_journal.specs.Entry.{line_of_entry}
use Rattle.mc_journal.specs.EntryText.{IsEntryLine}
use Rattle.mc_journal.specs.LineForms.{line_in}
use Rattle.mc_journal.specs.Readers.{cut_at}
use Rattle.mc_journal.proofs.LinesRead.{line-is}
use Rattle.report_text.specs.CountedLines.{counted_line}
use Rattle.report_text.specs.LaneLines.{lane_of}
use Rattle.report_text.proofs.EntryLines.{line-fits}
use Rattle.report_text.proofs.OutlinesRead.{counted-is, lane-is}
use Rattle.report_text.proofs.TextCuts.{longest-cut}
use Rattle.report_text.proofs.LaneLemmas.{said_lines, said_first, said-cut, said-uncut}
use Rattle.report_text.proofs.entries.next_entry.Goals as goal

pub returns-in_err-line-clause-lines : goal.returns-in_err-line-clause-lines
returns-in_err-line-clause-lines c =
    let none : cut_at 10 c.args.text.now ≡ None = sym c.cut.ensures.value ∙ ap (option_map _) c.in_err-line.was in
    rw c.from_residual.ensures (said-uncut counted_line c.args.text.now none)

pub returns-in_err-line-clause-lanes : goal.returns-in_err-line-clause-lanes
returns-in_err-line-clause-lanes c =
    let none : cut_at 10 c.args.text.now ≡ None = sym c.cut.ensures.value ∙ ap (option_map _) c.in_err-line.was in
    rw c.from_residual.ensures (said-uncut lane_of c.args.text.now none)

pub read_entry-requires : goal.read_entry-requires
read_entry-requires c =
    let cut : cut_at 10 c.args.text.now ≡ Some (c.in_ok-line.line.now, c.in_ok-line.after.now) = sym c.cut.ensures.value ∙ ap (option_map _) c.in_ok-line.was in
    omega (arith, longest-cut c.args.text.now (c.in_ok-line.line.now, c.in_ok-line.after.now) cut, length-append c.in_ok-line.line.now (10 ∷ []))

-- a line that is an entry's says what the entry's line says, and one that is none's says nothing
entry-said : {A : Type 0} (f : Line → A) (text : List ℕ) (x : List ℕ × List ℕ) (l : Line) → ((l : Line) (t : List ℕ) → IsEntryLine l → spaced (line_words l) ≡ t → Some (f l) ≡ option_map f (line_in t)) → cut_at 10 text ≡ Some x → IsEntryLine l → spaced (line_words l) ++ 10 ∷ [] ≡ x.0 ++ 10 ∷ [] → said_lines f text ≡ f l ∷ said_lines f x.1
entry-said {A = A} f text x l is cut fits e =
    let words : spaced (line_words l) ≡ x.0 = append_cancel_right (spaced (line_words l)) x.0 (10 ∷ []) e in
    said-cut f text x cut ∙ ap (λ (o : Option A). said_first f o (said_lines f x.1)) (sym (is l x.0 fits words))

other-said : {A : Type 0} (f : Line → A) (text : List ℕ) (x : List ℕ × List ℕ) → cut_at 10 text ≡ Some x → ((l : Line) → IsEntryLine l → spaced (line_words l) ++ 10 ∷ [] ≡ x.0 ++ 10 ∷ [] → ⊥) → said_lines f text ≡ []
other-said f text x cut refused = said-cut f text x cut ∙ go (line_in x.0) refl
  where
    go : (o : Option Line) → line_in x.0 ≡ o → said_first f (option_map f (line_in x.0)) (said_lines f x.1) ≡ []
    go None e = ap (λ (o : Option Line). said_first f (option_map f o) (said_lines f x.1)) e
    go (Some l) e = absurd (refused l (line-fits x.0 l e) (ap (λ (xs : List ℕ). xs ++ 10 ∷ []) (line-is x.0 l e)))

pub returns-in-Ok-clause-lines : goal.returns-in-Ok-clause-lines
returns-in-Ok-clause-lines c =
    let cut : cut_at 10 c.args.text.now ≡ Some (c.in_ok-line.line.now, c.in_ok-line.after.now) = sym c.cut.ensures.value ∙ ap (option_map _) c.in_ok-line.was in
    entry-said counted_line c.args.text.now (c.in_ok-line.line.now, c.in_ok-line.after.now) (line_of_entry c.in-Ok.entry) counted-is cut c.entries_have_entry_lines.ensures c.in-Ok.ensures.entry

pub returns-in-Ok-clause-lanes : goal.returns-in-Ok-clause-lanes
returns-in-Ok-clause-lanes c =
    let cut : cut_at 10 c.args.text.now ≡ Some (c.in_ok-line.line.now, c.in_ok-line.after.now) = sym c.cut.ensures.value ∙ ap (option_map _) c.in_ok-line.was in
    entry-said lane_of c.args.text.now (c.in_ok-line.line.now, c.in_ok-line.after.now) (line_of_entry c.in-Ok.entry) lane-is cut c.entries_have_entry_lines.ensures c.in-Ok.ensures.entry

pub returns-in-Ok-clause-fits : goal.returns-in-Ok-clause-fits
returns-in-Ok-clause-fits c =
    let cut : cut_at 10 c.args.text.now ≡ Some (c.in_ok-line.line.now, c.in_ok-line.after.now) = sym c.cut.ensures.value ∙ ap (option_map _) c.in_ok-line.was in
    omega (arith, longest-cut c.args.text.now (c.in_ok-line.line.now, c.in_ok-line.after.now) cut)

pub returns-in-Err-clause-lines : goal.returns-in-Err-clause-lines
returns-in-Err-clause-lines c =
    let cut : cut_at 10 c.args.text.now ≡ Some (c.in_ok-line.line.now, c.in_ok-line.after.now) = sym c.cut.ensures.value ∙ ap (option_map _) c.in_ok-line.was in
    other-said counted_line c.args.text.now (c.in_ok-line.line.now, c.in_ok-line.after.now) cut (c.in-Err.ensures.refused refl)

pub returns-in-Err-clause-lanes : goal.returns-in-Err-clause-lanes
returns-in-Err-clause-lanes c =
    let cut : cut_at 10 c.args.text.now ≡ Some (c.in_ok-line.line.now, c.in_ok-line.after.now) = sym c.cut.ensures.value ∙ ap (option_map _) c.in_ok-line.was in
    other-said lane_of c.args.text.now (c.in_ok-line.line.now, c.in_ok-line.after.now) cut (c.in-Err.ensures.refused refl)
