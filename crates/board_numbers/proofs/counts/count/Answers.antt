use Rattle.std.proofs.Common.{◌≡◌, Some, Option, ap, sym, ◌∙◌, subst, take}
use Rattle.std.specs.Prelude.{slice_get, option_map}
use Rattle.mc_journal.specs.Entry.{line_of_entry}
use Rattle.mc_journal.specs.declared.entry.Entry.{Entry}
use Rattle.board_numbers.specs.Counts.{AreCounts}
use Rattle.board_numbers.proofs.CountLemmas.{take-more}
use Rattle.board_numbers.proofs.counts.count.Goals as goal

pub loop-at-preserved : goal.loop-at-preserved
loop-at-preserved c =
    let lines = c.args.journal.now.lines in
    let at = c.loop-at.at in
    let line = line_of_entry c.unwrap.result in
    let here : Some line ≡ slice_get lines at = sym (ap (λ (e : Option Entry). option_map line_of_entry e) c.unwrap.ensures) ∙ c.entry.ensures.value in
    subst (AreCounts c.count_entry.new.self) (sym (take-more lines at line here)) (c.count_entry.ensures (take at lines) c.loop-at.invariant)
