use Rattle.std.proofs.Common.{◌≡◌, Some, None, Option, ap, sym, ◌∙◌, inl, inr, arith}
use Rattle.std.specs.Prelude.{slice_get}
use Rattle.std.proofs.lemmas.Option.{slice_get_cases}
use Rattle.board_model.specs.Report.{line_text}
use Rattle.outer_io.proofs.Writing.{puts_nothing, puts_item}
use Rattle.mc_journal.proofs.text.put_entries.Goals as goal

pub loop-at-init : goal.loop-at-init
loop-at-init g c = puts_nothing g.K.Sink c.args.out.now

pub loop-at-preserved : goal.loop-at-preserved
loop-at-preserved g c =
    let lines = c.args.journal.now.lines in
    let at = c.loop-at.at in
    elim ((slice_get_cases lines at).1) [
      | inl s ↦ puts_item g.K.Sink _ _ _ line_text lines at s.0 s.0 s.1 (sym s.3) c.loop-at.invariant (c.put_at.ensures s.0 s.2)
      | inr n ↦ absurd (omega (arith, n.0))
    ]
