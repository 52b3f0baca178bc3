use Rattle.std.proofs.Common.{◌≡◌, ℕ, refl, sym, ◌∙◌, arith}
use Rattle.report_text.specs.declared.verdict.CheckReason.{CheckReason}
use Rattle.report_text.specs.declared.verdict.Verdict.{Verdict}
use Rattle.report_text.specs.declared.verdict.Verdict.TheVariants.{Right, Wrong}
use Rattle.report_text.specs.Verdicts.{verdict_on}
use Rattle.report_laws.proofs.ReasonsOfRuns.{reasons-of-runs}
use Rattle.scenario_cli.specs.declared.form.Form.TheVariants.{Check}
use Rattle.scenario_cli.specs.VerdictText.{verdict_line}
use Rattle.scenario_cli.specs.Answers.{good, bad}
use Rattle.scenario_cli.proofs.ReportsTold.{right_is_of_run}
use Rattle.scenario_cli.proofs.Telling.{write-tells, memory-tells}
use Rattle.scenario_cli.proofs.report.tell_report.Goals as goal

either : (v : Verdict) (line : ℕ) (reason : CheckReason) → v ≡ Right → v ≡ Wrong line reason → ⊥
either v line reason right wrong = let both : Right ≡ Wrong line reason = sym right ∙ wrong in absurd cc

pub returns-in-Ok-Right : goal.returns-in-Ok-Right
returns-in-Ok-Right g c =
    let few = c.requires in
    let right : verdict_on c.args.report.now ≡ Right = sym c.in-Ok-Right.ensures ∙ c.in-Ok-Right.field-0-is in
    write-tells g.K.Sink c.args.output.now c.write_all.new.sink (verdict_line Right) Check good c.args.report.now (record { right = right; of_run = right_is_of_run c.args.report.now (omega (arith, few)) right; written = refl }) (λ wrong. either _ wrong.0.0 wrong.0.1 right wrong.1) c.write_all.result c.after_write.result
    c.after_write.ensures.whole c.after_write.ensures.failed
    (record { bytes = c.write_all.ensures.bytes; cause = c.write_all.ensures.cause; room = λ n takes fits. (c.write_all.ensures.room n takes fits).0; last = c.write_all.ensures.few_writes_at_err })

pub returns-in-Ok-Wrong : goal.returns-in-Ok-Wrong
returns-in-Ok-Wrong g c =
    let few = c.requires in
    let line = c.in-Ok-Wrong.line in
    let reason = c.in-Ok-Wrong.reason in
    let wrong : verdict_on c.args.report.now ≡ Wrong line reason = sym c.in-Ok-Wrong.ensures ∙ c.in-Ok-Wrong.field-0-is in
    let bytes = rw c.reason_word.ensures at c.write_wrong-written.ensures.bytes in
    let room = rw c.reason_word.ensures at c.write_wrong-written.ensures.room in
    let last = rw c.reason_word.ensures at c.write_wrong-written.ensures.few_writes_at_err in
    write-tells g.K.Sink c.args.output.now c.write_wrong-written.new.sink (verdict_line (Wrong line reason)) Check bad c.args.report.now (record { wrong = (line, reason); is = wrong; explained = reasons-of-runs c.args.report.now line reason (omega (arith, few)) wrong; written = refl }) (λ right. either _ line reason right wrong)
    c.write_wrong-written.result c.after_write-in-Ok-Wrong.result c.after_write-in-Ok-Wrong.ensures.whole c.after_write-in-Ok-Wrong.ensures.failed
    (record { bytes = bytes; cause = c.write_wrong-written.ensures.cause; room = room; last = last })

pub returns-in-Err : goal.returns-in-Err
returns-in-Err g c = memory-tells _ _ _ _
