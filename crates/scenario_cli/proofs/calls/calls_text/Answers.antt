use Rattle.std.proofs.Common.{List, subst, sym}
use Rattle.actor_lang.specs.Texts.{calls_of}
use Rattle.call_actor.specs.CallsBoards.{board_of}
use Rattle.call_actor.specs.CallsRun.{IsCallsOutcome}
use Rattle.call_actor.specs.declared.call_actor.CallActor.{CallActor}
use Rattle.board_model.specs.Report.{threads}
use Rattle.scenario_cli.specs.declared.form.Form.TheVariants.{Calls}
use Rattle.scenario_cli.specs.ActorLines.{AreOfCalls, calls_report}
use Rattle.scenario_cli.specs.Answers.{good}
use Rattle.scenario_cli.specs.CallsReport.{asked_by}
use Rattle.scenario_cli.proofs.CallsLemmas.{are-of-calls, calls-not-refused, calls-reported, may-be-asked}
use Rattle.scenario_cli.proofs.LeftLemmas.{journals-each, left-rings, left_threads}
use Rattle.scenario_cli.proofs.Telling.{write-tells, memory-tells}
use Rattle.scenario_cli.proofs.calls.calls_text.Goals as goal

pub returns-in-Ok-run_calls : goal.returns-in-Ok-run_calls
returns-in-Ok-run_calls g c =
    let text = c.args.text.now in
    let calls = calls_of c.in-Ok.asked in
    let s = c.in-Ok-run_calls.scenario in
    let o = c.in-Ok-run_calls.outcome in
    let actors = c.deref-in-Ok-run_calls.result.now in
    let told = c.in-Ok.ensures.told in
    let ran = rw c.deref.ensures.value at c.in-Ok-run_calls.ensures in
    let left = subst (λ (xs : List CallActor). IsCallsOutcome (asked_by calls) calls.size s o xs) (sym c.deref-in-Ok-run_calls.ensures.value) ran in
    write-tells g.K.Sink c.args.output.now c.write_calls.new.output (calls_report calls.clients s o actors) Calls good text (calls-reported text calls s o actors told (may-be-asked calls c.in-Ok.ensures.fit) left) (calls-not-refused text calls told) c.write_calls.result c.after_write.result c.after_write.ensures.whole c.after_write.ensures.failed
    (record { bytes = c.write_calls.ensures.bytes; cause = c.write_calls.ensures.cause; room = c.write_calls.ensures.room; last = c.write_calls.ensures.few_writes_at_err })

pub returns-in-Ok : goal.returns-in-Ok
returns-in-Ok g c = memory-tells _ _ _ _

pub returns : goal.returns
returns g c = c.tell_input_fault.ensures.calls c.args.text.now c.in-Err.ensures.refused

pub run_calls-requires-clause-board : goal.run_calls-requires-clause-board
run_calls-requires-clause-board g c = λ lives within. rw c.deref.ensures.value (may-be-asked (calls_of c.in-Ok.asked) c.in-Ok.ensures.fit)

pub write_calls-requires-clause-one_each : goal.write_calls-requires-clause-one_each
write_calls-requires-clause-one_each g c =
    let is = c.in-Ok-run_calls.ensures in
    journals-each threads c.in-Ok-run_calls.scenario c.in-Ok-run_calls.outcome (left_threads c.in-Ok-run_calls.scenario c.in-Ok-run_calls.outcome is.lawful is.run)

pub write_calls-requires-clause-rings : goal.write_calls-requires-clause-rings
write_calls-requires-clause-rings g c =
    let is = c.in-Ok-run_calls.ensures in
    left-rings threads c.in-Ok-run_calls.scenario c.in-Ok-run_calls.outcome (left_threads c.in-Ok-run_calls.scenario c.in-Ok-run_calls.outcome is.lawful is.run)

pub write_calls-requires-clause-actors : goal.write_calls-requires-clause-actors
write_calls-requires-clause-actors g c =
    let is = c.in-Ok-run_calls.ensures in
    let ready = are-of-calls (board_of c.in-Ok.asked.clients c.in-Ok.asked.repeat c.deref.result.now) c.in-Ok-run_calls.scenario is.run.journals c.in-Ok-run_calls.actors.items is.called in
    subst (λ (xs : List CallActor). AreOfCalls c.in-Ok.asked.clients xs) (sym c.deref-in-Ok-run_calls.ensures.value) ready
