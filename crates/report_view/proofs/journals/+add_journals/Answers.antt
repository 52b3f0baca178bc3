use Rattle.std.proofs.Common.{refl, arith}
use Rattle.report_text.specs.declared.link_pass.JournalLines.{JournalLines}
use Rattle.report_text.specs.ScenarioPart.{rest}
use Rattle.report_text.specs.TextLines.{lines_in}
use Rattle.report_view.proofs.JournalsFound.{added, first, none_left}
use Rattle.report_view.proofs.journals.+add_journals.Goals as goal

pub returns-in_default : goal.returns-in_default
returns-in_default t c = λ n. none_left c.args.domains.now c.in_default.len_below _ (rest n (lines_in c.args.text.now))

pub returns : goal.returns
returns t c =
    let journal : JournalLines = record { domain = (first c.args.domains.now).domain; number = c.saturating_add.result; text = c.behind_heading-entries.result } in
    added c.add_journals.result c.add_journals.new.journals.items c.add.new.journals.items c.args.journals.now.items journal c.args.domains.now (lines_in c.pass_journal-lines.result.1.now) (lines_in c.args.text.now) (omega (arith, c.in-len1-up.len_at_least)) c.in_ok-add.ensures refl c.behind_heading-entries.ensures c.pass_journal-lines.ensures c.add_journals.ensures
