use Rattle.std.proofs.Common.{◌≡◌, ◌<◌, ◌+◌, ◌^◌, length, ℕ, List, Some, None, sym, ◌∙◌}
use Rattle.std.specs.List.{AllByRecursion}
use Rattle.board_model.proofs.MessageAlls.{all-weaken}
use Rattle.report_text.specs.declared.link_pass.JournalLines.{JournalLines}
use Rattle.report_text.specs.LaneLeft.{AreShort, IsShort}
use Rattle.report_text.specs.TextRead.{told_of}
use Rattle.report_check.specs.Walks.{wrong_link_of}
use Rattle.report_check.proofs.VerdictsFound.{by-link, by-totals, passes}
use Rattle.report_check.proofs.passes.check_walked.Goals as goal

pub wrong_total-requires-clause-passed : goal.wrong_total-requires-clause-passed
wrong_total-requires-clause-passed c =
    let t = told_of c.args.told.now in
    let none : None ≡ wrong_link_of t = sym c.in_default.is ∙ c.in_ok-line.ensures in
    record { report = c.args._report.now; short = c.requires.text.short; told = c.requires.text.told; passes = passes c.args._report.now t c.requires.text.told c.requires.walked.right none }

shorts : (most : ℕ) (cs : List JournalLines) → AreShort most cs → AllByRecursion (λ (k : JournalLines). k.number + length k.text.now < 2 ^ 32) cs
shorts most cs short = all-weaken (IsShort most) (λ (k : JournalLines). k.number + length k.text.now < 2 ^ 32) (λ k one. one.count) cs short

pub wrong_total-requires-clause-few : goal.wrong_total-requires-clause-few
wrong_total-requires-clause-few c = shorts _ c.args.walks.now.journals.items c.requires.ready.short

pub returns-in-Some : goal.returns-in-Some
returns-in-Some c = by-link c.args._report.now (told_of c.args.told.now) c.requires.text.told c.requires.walked.right c.in-Some.line (sym c.in-Some.is ∙ c.in_ok-line.ensures)

pub returns-in-Some-2 : goal.returns-in-Some-2
returns-in-Some-2 c =
    let t = told_of c.args.told.now in
    let none : None ≡ wrong_link_of t = sym c.in_default.is ∙ c.in_ok-line.ensures in
    by-totals c.args._report.now t c.requires.text.told c.requires.walked.right none (Some c.in-Some-2.line) (sym c.in-Some-2.is ∙ c.in_ok-line-2.ensures)

pub returns-in-None : goal.returns-in-None
returns-in-None c =
    let t = told_of c.args.told.now in
    let none : None ≡ wrong_link_of t = sym c.in_default.is ∙ c.in_ok-line.ensures in
    by-totals c.args._report.now t c.requires.text.told c.requires.walked.right none None (sym c.in-None.is ∙ c.in_ok-line-2.ensures)
