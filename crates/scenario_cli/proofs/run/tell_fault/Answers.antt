use Rattle.std.proofs.Common.{◌≡◌, refl, sym, subst}
use Rattle.std.specs.Prelude.{OnOk}
use Rattle.scenario_cli.specs.Answers.{bad}
use Rattle.scenario_cli.specs.Words.{run_in}
use Rattle.scenario_cli.proofs.ModeForms.{refused-status, as-refusal, no-scenario}
use Rattle.scenario_cli.proofs.Telling.{write-tells, memory-tells}
use Rattle.scenario_cli.proofs.run.tell_fault.Goals as goal

pub returns-in-Refused : goal.returns-in-Refused
returns-in-Refused g c = λ mode text is.
    let refused = rw c.in-Refused.is at is in
    let bytes = rw c.line_reason_word.ensures at c.write_refusal-written.ensures.bytes in
    let room = rw c.line_reason_word.ensures at c.write_refusal-written.ensures.room in
    let last = rw c.line_reason_word.ensures at c.write_refusal-written.ensures.few_writes_at_err in
    write-tells g.K.Sink c.args.output.now c.write_refusal-written.new.output _ (run_in mode) bad text (as-refusal mode text _ (record { line = _; refused = refused; written = refl })) (no-scenario mode text _ refused) c.write_refusal-written.result c.after_write.result
    (subst (λ n. OnOk c.write_refusal-written.result (c.after_write.result ≡ n)) (sym (refused-status mode)) c.after_write.ensures.whole) c.after_write.ensures.failed
    (record { bytes = bytes; cause = c.write_refusal-written.ensures.cause; room = room; last = last })

pub returns-in-NoMemory : goal.returns-in-NoMemory
returns-in-NoMemory g c = λ mode text is. memory-tells _ _ text _
