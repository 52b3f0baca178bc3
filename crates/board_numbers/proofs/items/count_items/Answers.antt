use Rattle.std.proofs.Common.{false, [], ◌∷◌, ◌++◌, sym, ◌∙◌}
use Rattle.mc_journal.specs.Entry.{line_of_entry}
use Rattle.board_numbers.specs.ItemCounts.{AddsTold, CountsLines}
use Rattle.board_numbers.proofs.ClosedLines.{closing-append}
use Rattle.board_numbers.proofs.EachLemmas.{each-then}
use Rattle.board_numbers.proofs.ItemCountLemmas.{lines-more}
use Rattle.board_numbers.proofs.items.count_items.Goals as goal

pub returns-clause-counted : goal.returns-clause-counted
returns-clause-counted c lines begun closes before =
    let own = c.args.own in
    let l = line_of_entry c.args.entry in
    let told = c.told_by-told.result in
    each-then (CountsLines own lines) (AddsTold told) (CountsLines own (lines ++ l ∷ [])) (lines-more own lines c.args.closing l told closes c.told_by-told.ensures) begun _ _ before c.count_told.ensures

pub returns-clause-closes : goal.returns-clause-closes
returns-clause-closes c lines owner n = c.closing_by.ensures owner n ∙ sym (closing-append owner n false lines (line_of_entry c.args.entry ∷ []))
