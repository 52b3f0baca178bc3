use Rattle.std.proofs.Common.{rules, subst}
use Rattle.std.specs.Prelude.{OnErr}
use Rattle.outer_io.specs.Writes.{WritesStop}
use Rattle.outer_io.proofs.Finishing.{finished, puts_same}
use Rattle.scenario_cli.specs.ActorLines.{calls_report}
use Rattle.scenario_cli.proofs.CallsLemmas.{puts-report}
use Rattle.scenario_cli.proofs.calls.write_calls.Goals as goal

pub returns-clause-bytes : goal.returns-clause-bytes
returns-clause-bytes g c =
    let puts = puts-report g.K.Sink _ _ _ c.args.clients c.args.scenario.now c.args.outcome.now c.args.actors.now c.put_report.ensures c.put_calls.ensures in
    let written = finished g.K.Sink c.new-out.result c.put_calls.new.out _ c.finish.result _ c.new-out.ensures.sound c.new-out.ensures.empty puts c.finish.ensures in
    let bytes = rw c.new-out.ensures.sink at written.bytes in
    let same = puts_same _ _ _ _ puts in
    search rules

pub returns-clause-cause : goal.returns-clause-cause
returns-clause-cause g c =
    let puts = puts-report g.K.Sink _ _ _ c.args.clients c.args.scenario.now c.args.outcome.now c.args.actors.now c.put_report.ensures c.put_calls.ensures in
    let written = finished g.K.Sink c.new-out.result c.put_calls.new.out _ c.finish.result _ c.new-out.ensures.sound c.new-out.ensures.empty puts c.finish.ensures in
    let cause = rw c.new-out.ensures.sink at written.cause in
    let same = puts_same _ _ _ _ puts in
    search rules

pub returns-clause-room : goal.returns-clause-room
returns-clause-room g c =
    let puts = puts-report g.K.Sink _ _ _ c.args.clients c.args.scenario.now c.args.outcome.now c.args.actors.now c.put_report.ensures c.put_calls.ensures in
    let written = finished g.K.Sink c.new-out.result c.put_calls.new.out _ c.finish.result _ c.new-out.ensures.sound c.new-out.ensures.empty puts c.finish.ensures in
    rw c.new-out.ensures.sink at written.room

pub returns-clause-few_writes_at_err : goal.returns-clause-few_writes_at_err
returns-clause-few_writes_at_err g c =
    let puts = puts-report g.K.Sink _ _ _ c.args.clients c.args.scenario.now c.args.outcome.now c.args.actors.now c.put_report.ensures c.put_calls.ensures in
    let written = finished g.K.Sink c.new-out.result c.put_calls.new.out _ c.finish.result _ c.new-out.ensures.sound c.new-out.ensures.empty puts c.finish.ensures in
    let stops = rw c.new-out.ensures.sink at written.stops in
    let same = puts_same _ _ _ _ puts in
    subst
    (λ sink. OnErr c.finish.result (WritesStop (g.K.Sink.written c.args.output.now) (g.K.Sink.written sink) (g.K.Sink.calls c.args.output.now) (g.K.Sink.calls sink) (calls_report c.args.clients c.args.scenario.now c.args.outcome.now c.args.actors.now)))
    (search rules) stops
