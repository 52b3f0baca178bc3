use Rattle.std.proofs.Common.{◌≡◌, ◌∷◌, [], ◌++◌, List, ℕ, Some, None, sym, ap, ◌∙◌}
use Rattle.std.specs.Prelude.{option_map, bytes_eq}
use Rattle.std.proofs.lemmas.Bool.Decides.{not_from_Decides}
use Rattle.std.proofs.lemmas.Slice.Eq.{bytes_eq-Decides}
use Rattle.mc_journal.specs.Readers.{cut_at}
use Rattle.report_text.specs.TextLines.{lines_in}
use Rattle.report_text.proofs.TextCuts.{lines-cut}
use Rattle.report_check.proofs.FirstLines.{other-uncut, other-cut}
use Rattle.report_check.proofs.due_lines.behind_line.Goals as goal

pub returns-in_err-first : goal.returns-in_err-first
returns-in_err-first c =
    let none : cut_at 10 c.args.text.now ≡ None = sym c.cut.ensures.value ∙ ap (option_map _) c.in_err-first.was in
    rw c.from_residual.ensures (other-uncut c.args.line.now c.args.text.now none)

pub returns-then-eq : goal.returns-then-eq
returns-then-eq c =
    let x : List ℕ × List ℕ = (c.in_ok-first.first.now, c.in_ok-first.rest.now) in
    let cut : cut_at 10 c.args.text.now ≡ Some x = sym c.cut.ensures.value ∙ ap (option_map _) c.in_ok-first.was in
    let same : c.in_ok-first.first.now ≡ c.args.line.now = (bytes_eq-Decides c.in_ok-first.first.now c.args.line.now).0 (sym c.eq.ensures ∙ c.if-eq.true) in
    lines-cut c.args.text.now x cut ∙ ap (λ (l : List ℕ). (l ++ 10 ∷ []) ∷ lines_in c.in_ok-first.rest.now) same

pub returns-else-eq : goal.returns-else-eq
returns-else-eq c =
    let x : List ℕ × List ℕ = (c.in_ok-first.first.now, c.in_ok-first.rest.now) in
    let cut : cut_at 10 c.args.text.now ≡ Some x = sym c.cut.ensures.value ∙ ap (option_map _) c.in_ok-first.was in
    other-cut c.args.line.now c.args.text.now x cut
    (not_from_Decides (bytes_eq c.in_ok-first.first.now c.args.line.now) (bytes_eq-Decides c.in_ok-first.first.now c.args.line.now) (sym c.eq.ensures ∙ c.if-eq.false))
