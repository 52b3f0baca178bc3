use Rattle.std.proofs.Common.{◌≡◌, arith}
use Rattle.report_text.specs.Verdicts.{verdict_on}
use Rattle.report_text.specs.declared.verdict.Verdict.TheVariants.{Right}
use Rattle.view_cli.specs.Drawn.{ShowsPicture, charted, sequenced, traced}
use Rattle.view_cli.specs.ExpectedAnswers.{ShowsExpected}
use Rattle.view_cli.specs.RefusedCalls.{ShowsRefused}
use Rattle.view_cli.proofs.Inputs.{if_text, ok-differs}
use Rattle.view_cli.proofs.Showing.{ends_fault, ends_shown, not_read, not_usage}
use Rattle.view_cli.proofs.top.with_input.Goals as goal

pub returns-in-Ok-clause-ends : goal.returns-in-Ok-clause-ends
returns-in-Ok-clause-ends g c = ends_shown g.S.Source g.K.Sink c.with_report.result _ _ _ _ (c.in-Ok.ensures.no_fault (ok-differs _ _)) c.with_report.ensures.shows

pub returns-in-Ok-clause-refused : goal.returns-in-Ok-clause-refused
returns-in-Ok-clause-refused g c = λ is few.
    let bytes = rw (← c.deref.ensures.value) at c.in-Ok.ensures.bytes in
    if_text _ _ c.deref.result.now (λ report. ShowsRefused report c.with_report.result _ _) bytes c.in-Ok.ensures.end (c.with_report.ensures.refused is few)

pub returns-in-Ok-clause-expected : goal.returns-in-Ok-clause-expected
returns-in-Ok-clause-expected g c = λ is few.
    let bytes = rw (← c.deref.ensures.value) at c.in-Ok.ensures.bytes in
    if_text _ _ c.deref.result.now (λ report. ShowsExpected c.args.file.now report c.with_report.result _ _) bytes c.in-Ok.ensures.end (c.with_report.ensures.expected is few)

pub returns-in-Err-clause-ends : goal.returns-in-Err-clause-ends
returns-in-Err-clause-ends g c =
    ends_fault g.S.Source g.K.Sink c.in-Err.fault c.after_read.result _ _ _ c.after_read.ensures c.in-Err.ensures.failed c.in-Err.ensures.no_fault

pub returns-in-Err-clause-form : goal.returns-in-Err-clause-form
returns-in-Err-clause-form g c = not_usage c.in-Err.fault c.after_read.result c.after_read.ensures

pub returns-in-Err-clause-refused : goal.returns-in-Err-clause-refused
returns-in-Err-clause-refused g c = λ is few. absurd (not_read c.in-Err.fault c.after_read.result c.after_read.ensures few)

pub returns-in-Err-clause-expected : goal.returns-in-Err-clause-expected
returns-in-Err-clause-expected g c = λ is few. absurd (not_read c.in-Err.fault c.after_read.result c.after_read.ensures few)

pub returns-in-Err-clause-checked : goal.returns-in-Err-clause-checked
returns-in-Err-clause-checked g c = λ is few. absurd (not_read c.in-Err.fault c.after_read.result c.after_read.ensures few)

pub returns-in-Ok-clause-checked : goal.returns-in-Ok-clause-checked
returns-in-Ok-clause-checked g c = λ is few.
    let bytes = rw (← c.deref.ensures.value) at c.in-Ok.ensures.bytes in
    if_text _ _ c.deref.result.now (λ report. verdict_on report ≡ Right) bytes c.in-Ok.ensures.end (c.with_report.ensures.checked is few)

pub returns-in-Ok-clause-sequence : goal.returns-in-Ok-clause-sequence
returns-in-Ok-clause-sequence g c = λ is done.
    let bytes = rw (← c.deref.ensures.value) at c.in-Ok.ensures.bytes in
    if_text _ _ c.deref.result.now (λ report. ShowsPicture (sequenced c.args.asked) report _ _) bytes c.in-Ok.ensures.end (c.with_report.ensures.sequence is done)

pub returns-in-Err-clause-sequence : goal.returns-in-Err-clause-sequence
returns-in-Err-clause-sequence g c = λ is done. absurd (not_read c.in-Err.fault c.after_read.result c.after_read.ensures (omega (arith, done)))

pub returns-in-Ok-clause-lanes : goal.returns-in-Ok-clause-lanes
returns-in-Ok-clause-lanes g c = λ is done.
    let bytes = rw (← c.deref.ensures.value) at c.in-Ok.ensures.bytes in
    if_text _ _ c.deref.result.now (λ report. ShowsPicture charted report _ _) bytes c.in-Ok.ensures.end (c.with_report.ensures.lanes is done)

pub returns-in-Err-clause-lanes : goal.returns-in-Err-clause-lanes
returns-in-Err-clause-lanes g c = λ is done. absurd (not_read c.in-Err.fault c.after_read.result c.after_read.ensures (omega (arith, done)))

pub returns-in-Ok-clause-trace : goal.returns-in-Ok-clause-trace
returns-in-Ok-clause-trace g c = λ is done.
    let bytes = rw (← c.deref.ensures.value) at c.in-Ok.ensures.bytes in
    if_text _ _ c.deref.result.now (λ report. ShowsPicture traced report _ _) bytes c.in-Ok.ensures.end (c.with_report.ensures.trace is done)

pub returns-in-Err-clause-trace : goal.returns-in-Err-clause-trace
returns-in-Err-clause-trace g c = λ is done. absurd (not_read c.in-Err.fault c.after_read.result c.after_read.ensures (omega (arith, done)))
