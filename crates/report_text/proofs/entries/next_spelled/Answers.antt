use Rattle.std.proofs.Common.{◌≡◌, Some, None, sym, ap, ◌∙◌, arith}
use Rattle.std.specs.Prelude.{option_map}
use Rattle.mc_journal.specs.Entry.{line_of_entry}
use Rattle.mc_journal.specs.Readers.{cut_at}
use Rattle.mc_journal.specs.Spelled.{spelled_line}
use Rattle.report_text.specs.JournalRead.{line_before}
use Rattle.report_text.proofs.entries.next_spelled.Goals as goal

pub returns-in_err-line-clause-found : goal.returns-in_err-line-clause-found
returns-in_err-line-clause-found c =
    let none : cut_at 10 c.args.text.now ≡ None = sym c.cut.ensures.value ∙ ap (option_map _) c.in_err-line.was in
    rw c.from_residual.ensures (ap line_before none)

pub returns-in_err-spelled_entry-clause-found : goal.returns-in_err-spelled_entry-clause-found
returns-in_err-spelled_entry-clause-found c =
    let cut : cut_at 10 c.args.text.now ≡ Some (c.in_ok-line.line.now, c.in_ok-line.after.now) = sym c.cut.ensures.value ∙ ap (option_map _) c.in_ok-line.was in
    rw c.from_residual-in_err-spelled_entry.ensures
    (ap line_before cut ∙ (sym c.spelled_entry.ensures.line ∙ ap (option_map (λ e. spelled_line (line_of_entry e))) c.in_err-spelled_entry.was))

pub returns-clause-found : goal.returns-clause-found
returns-clause-found c =
    let cut : cut_at 10 c.args.text.now ≡ Some (c.in_ok-line.line.now, c.in_ok-line.after.now) = sym c.cut.ensures.value ∙ ap (option_map _) c.in_ok-line.was in
    record {
      front = c.in_ok-line.line.now;
      cut = cut;
      line = sym c.spelled_entry.ensures.line ∙ ap (option_map (λ e. spelled_line (line_of_entry e))) c.in_ok-spelled_entry.was;
      digits = c.in_ok-spelled_entry.ensures.digits;
      few = c.in_ok-spelled_entry.ensures.few _ (omega arith);
      shorter = c.in_ok-line.ensures.shorter;
      rest = c.in_ok-line.ensures.behind;
    }
