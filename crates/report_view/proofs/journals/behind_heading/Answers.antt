use Rattle.std.proofs.Common.{◌≡◌, Some, None, drop, ap, sym, ◌∙◌}
use Rattle.std.specs.Prelude.{option_map}
use Rattle.mc_journal.specs.Readers.{cut_at}
use Rattle.report_text.proofs.TextCuts.{lines-cut}
use Rattle.report_view.proofs.JournalsFound.{nothing_behind}
use Rattle.report_view.proofs.journals.behind_heading.Goals as goal

pub returns-in-Some : goal.returns-in-Some
returns-in-Some c =
    let cut : cut_at 10 c.args.text.now ≡ Some _ = sym c.cut.ensures.value ∙ ap (option_map _) c.in-Some.is in
    sym (ap (drop 1) (lines-cut c.args.text.now _ cut))

pub returns-in-None : goal.returns-in-None
returns-in-None c =
    let none : cut_at 10 c.args.text.now ≡ None = sym c.cut.ensures.value ∙ ap (option_map _) c.in-None.is in
    nothing_behind c.args.text.now none
