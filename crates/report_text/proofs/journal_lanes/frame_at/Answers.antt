use Rattle.std.proofs.Common.{◌≤◌, ℕ, List, length, sym, subst, arith}
use Rattle.report_text.specs.Texts.{longest_line}
use Rattle.report_text.proofs.JournalLaneLemmas.{longest-drop}
use Rattle.report_text.proofs.journal_lanes.frame_at.Goals as goal

pub next_entry-requires : goal.next_entry-requires
next_entry-requires c =
    subst (λ (t : List ℕ). longest_line t ≤ length c.args.room.now) (sym c.split_at.ensures.back)
    (omega (arith, longest-drop c.min.result c.args.text.now, c.requires))
