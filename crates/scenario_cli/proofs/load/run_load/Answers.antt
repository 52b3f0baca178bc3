use Rattle.std.proofs.Common.{inl, refl, arith}
use Rattle.scenario_cli.specs.LoadText.{load_report}
use Rattle.scenario_cli.proofs.Telling.{unread-of, text-writes, or-memory, memory-unread, memory-writes, no-usage}
use Rattle.scenario_cli.proofs.load.run_load.Goals as goal

pub returns-in-Ok-clause-unread : goal.returns-in-Ok-clause-unread
returns-in-Ok-clause-unread g c =
    unread-of g.K.Sink c.args.output.now c.write_load.new.output (load_report c.args.packets) c.write_load.result c.after_write.result 0 c.after_write.ensures.whole c.after_write.ensures.failed (inl refl)
    (record { bytes = c.write_load.ensures.bytes; cause = c.write_load.ensures.cause; room = c.write_load.ensures.room; last = c.write_load.ensures.few_writes_at_err })

pub returns-in-Ok-clause-load : goal.returns-in-Ok-clause-load
returns-in-Ok-clause-load g c =
    or-memory g.K.Sink (load_report c.args.packets) 0 c.after_write.result c.args.output.now c.write_load.new.output
    (text-writes g.K.Sink c.args.output.now c.write_load.new.output (load_report c.args.packets) c.write_load.result c.after_write.result 0 c.after_write.ensures.whole c.after_write.ensures.failed (λ e. omega (arith, e))
    (record { bytes = c.write_load.ensures.bytes; cause = c.write_load.ensures.cause; room = c.write_load.ensures.room; last = c.write_load.ensures.few_writes_at_err }))

pub returns-in-Ok-clause-not_usage : goal.returns-in-Ok-clause-not_usage
returns-in-Ok-clause-not_usage g c =
    no-usage g.K.Sink (load_report c.args.packets) c.after_write.result c.args.output.now c.write_load.new.output
    (or-memory g.K.Sink (load_report c.args.packets) 0 c.after_write.result c.args.output.now c.write_load.new.output
    (text-writes g.K.Sink c.args.output.now c.write_load.new.output (load_report c.args.packets) c.write_load.result c.after_write.result 0 c.after_write.ensures.whole c.after_write.ensures.failed (λ e. omega (arith, e))
    (record { bytes = c.write_load.ensures.bytes; cause = c.write_load.ensures.cause; room = c.write_load.ensures.room; last = c.write_load.ensures.few_writes_at_err })))

pub returns-in-Err-clause-unread : goal.returns-in-Err-clause-unread
returns-in-Err-clause-unread g c = memory-unread g.K.Sink _

pub returns-in-Err-clause-load : goal.returns-in-Err-clause-load
returns-in-Err-clause-load g c = memory-writes g.K.Sink _ _

pub returns-in-Err-clause-not_usage : goal.returns-in-Err-clause-not_usage
returns-in-Err-clause-not_usage g c = λ two. omega (arith, two)
