use Rattle.std.proofs.Common.{refl}
use Rattle.scenario_cli.specs.declared.form.Form.TheVariants.{Relay, Calls}
use Rattle.scenario_cli.specs.Answers.{bad}
use Rattle.scenario_cli.proofs.CallsLemmas.{refused-no-calls}
use Rattle.scenario_cli.proofs.RelayLemmas.{refused-no-relay}
use Rattle.scenario_cli.proofs.Telling.{write-tells, memory-tells}
use Rattle.scenario_cli.proofs.input_fault.tell_input_fault.Goals as goal

pub returns-in-Refused-clause-relay : goal.returns-in-Refused-clause-relay
returns-in-Refused-clause-relay g c = λ text is.
    let refused = rw c.in-Refused.is at is in
    let bytes = rw c.input_reason_word.ensures at c.write_refusal-written.ensures.bytes in
    let room = rw c.input_reason_word.ensures at c.write_refusal-written.ensures.room in
    let last = rw c.input_reason_word.ensures at c.write_refusal-written.ensures.few_writes_at_err in
    write-tells g.K.Sink c.args.output.now c.write_refusal-written.new.output _ Relay bad text (record { line = _; refused = refused; written = refl }) (refused-no-relay text _ refused) c.write_refusal-written.result c.after_write.result c.after_write.ensures.whole c.after_write.ensures.failed
    (record { bytes = bytes; cause = c.write_refusal-written.ensures.cause; room = room; last = last })

pub returns-in-Refused-clause-calls : goal.returns-in-Refused-clause-calls
returns-in-Refused-clause-calls g c = λ text is.
    let refused = rw c.in-Refused.is at is in
    let bytes = rw c.input_reason_word.ensures at c.write_refusal-written.ensures.bytes in
    let room = rw c.input_reason_word.ensures at c.write_refusal-written.ensures.room in
    let last = rw c.input_reason_word.ensures at c.write_refusal-written.ensures.few_writes_at_err in
    write-tells g.K.Sink c.args.output.now c.write_refusal-written.new.output _ Calls bad text (record { line = _; refused = refused; written = refl }) (refused-no-calls text _ refused) c.write_refusal-written.result c.after_write.result c.after_write.ensures.whole c.after_write.ensures.failed
    (record { bytes = bytes; cause = c.write_refusal-written.ensures.cause; room = room; last = last })

pub returns-in-NoMemory-clause-relay : goal.returns-in-NoMemory-clause-relay
returns-in-NoMemory-clause-relay g c = λ text is. memory-tells _ _ text _

pub returns-in-NoMemory-clause-calls : goal.returns-in-NoMemory-clause-calls
returns-in-NoMemory-clause-calls g c = λ text is. memory-tells _ _ text _
