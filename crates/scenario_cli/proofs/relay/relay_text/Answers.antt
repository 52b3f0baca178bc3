use Rattle.actor_lang.specs.Texts.{relay_of}
use Rattle.board_model.specs.Report.{threads}
use Rattle.board_runner.specs.RingLines.{outcome_report}
use Rattle.scenario_cli.specs.declared.form.Form.TheVariants.{Relay}
use Rattle.scenario_cli.specs.Answers.{good}
use Rattle.scenario_cli.proofs.LeftLemmas.{journals-each, left-rings, left_threads}
use Rattle.scenario_cli.proofs.RelayLemmas.{packets-fit, relay-not-refused, relay-reported}
use Rattle.scenario_cli.proofs.Telling.{write-tells, memory-tells}
use Rattle.scenario_cli.proofs.relay.relay_text.Goals as goal

pub returns-in-Ok-run_relay : goal.returns-in-Ok-run_relay
returns-in-Ok-run_relay g c =
    let text = c.args.text.now in
    let relay = relay_of c.in-Ok.relay in
    let s = c.in-Ok-run_relay.scenario in
    let o = c.in-Ok-run_relay.outcome in
    write-tells g.K.Sink c.args.output.now c.write_report.new.sink (outcome_report threads s o) Relay good text (relay-reported text relay s o c.in-Ok.ensures.told c.in-Ok.ensures.fit.some_hops c.in-Ok-run_relay.ensures) (relay-not-refused text relay c.in-Ok.ensures.told) c.write_report.result c.after_write.result c.after_write.ensures.whole c.after_write.ensures.failed
    (record { bytes = c.write_report.ensures.bytes; cause = c.write_report.ensures.cause; room = c.write_report.ensures.room; last = c.write_report.ensures.few_writes_at_err })

pub returns-in-Err-run_relay : goal.returns-in-Err-run_relay
returns-in-Err-run_relay g c = memory-tells _ _ _ _

pub returns-in-Err : goal.returns-in-Err
returns-in-Err g c = c.tell_input_fault.ensures.relay c.args.text.now c.in-Err.ensures.refused

pub write_report-requires-clause-one_each : goal.write_report-requires-clause-one_each
write_report-requires-clause-one_each g c =
    let is = c.in-Ok-run_relay.ensures in
    journals-each threads c.in-Ok-run_relay.scenario c.in-Ok-run_relay.outcome (left_threads c.in-Ok-run_relay.scenario c.in-Ok-run_relay.outcome is.lawful is.run)

pub write_report-requires-clause-rings : goal.write_report-requires-clause-rings
write_report-requires-clause-rings g c =
    let is = c.in-Ok-run_relay.ensures in
    left-rings threads c.in-Ok-run_relay.scenario c.in-Ok-run_relay.outcome (left_threads c.in-Ok-run_relay.scenario c.in-Ok-run_relay.outcome is.lawful is.run)

pub run_relay-requires-clause-sizes : goal.run_relay-requires-clause-sizes
run_relay-requires-clause-sizes g c = λ lives within. packets-fit c.in-Ok.relay.packets.items c.in-Ok.ensures.fit.packets
