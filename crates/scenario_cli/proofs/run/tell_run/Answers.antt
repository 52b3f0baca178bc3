use Rattle.board_runner.specs.Mode.{mode_of}
use Rattle.board_runner.specs.RingLines.{outcome_report}
use Rattle.scenario_cli.specs.Answers.{good}
use Rattle.scenario_cli.specs.Words.{run_in}
use Rattle.scenario_cli.proofs.LeftLemmas.{left-reported, left-rings, journals-each, reported_of}
use Rattle.scenario_cli.proofs.ModeForms.{as-report, no-refusal}
use Rattle.scenario_cli.proofs.Telling.{write-tells, memory-tells}
use Rattle.scenario_cli.proofs.run.tell_run.Goals as goal

pub returns-in-Ok : goal.returns-in-Ok
returns-in-Ok g c = λ text told.
    let mode = mode_of c.args.threads in
    let s = c.args.scenario.now in
    let left = rw c.in-Ok.is at c.requires.left in
    let output = outcome_report mode s c.in-Ok.outcome in
    let report = reported_of mode text output s told (left-reported mode s c.in-Ok.outcome c.requires.lawful left) in
    write-tells g.K.Sink c.args.output.now c.write_report.new.sink output (run_in mode) good text (as-report mode text output report) (no-refusal mode text s told) c.write_report.result c.after_write.result c.after_write.ensures.whole c.after_write.ensures.failed
    (record { bytes = c.write_report.ensures.bytes; cause = c.write_report.ensures.cause; room = c.write_report.ensures.room; last = c.write_report.ensures.few_writes_at_err })

pub returns-in-Err : goal.returns-in-Err
returns-in-Err g c = λ text told. memory-tells _ _ text _

pub write_report-requires-clause-one_each : goal.write_report-requires-clause-one_each
write_report-requires-clause-one_each g c = journals-each (mode_of c.args.threads) c.args.scenario.now c.in-Ok.outcome (rw c.in-Ok.is at c.requires.left)

pub write_report-requires-clause-rings : goal.write_report-requires-clause-rings
write_report-requires-clause-rings g c = left-rings (mode_of c.args.threads) c.args.scenario.now c.in-Ok.outcome (rw c.in-Ok.is at c.requires.left)
