use Rattle.std.proofs.Common.{◌≤◌, ℕ, List, sym, subst}
use Rattle.report_text.specs.Texts.{longest_line}
use Rattle.report_text.proofs.JournalLaneLemmas.{longest-drop}
use Rattle.view_text.proofs.place.text_at.Goals as goal

pub returns : goal.returns
returns c =
    subst (λ (t : List ℕ). longest_line t ≤ longest_line c.args.text.now) (sym c.split_at.ensures.back)
    (longest-drop c.min.result c.args.text.now)
