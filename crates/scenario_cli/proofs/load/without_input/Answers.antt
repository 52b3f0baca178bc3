use Rattle.std.proofs.Common.{◌≡◌, inl, inr, refl, arith}
use Rattle.scenario_cli.specs.Words.{usage_text}
use Rattle.scenario_cli.proofs.LoadWords.{one_load}
use Rattle.scenario_cli.proofs.Telling.{unread-of, text-writes}
use Rattle.scenario_cli.proofs.load.without_input.Goals as goal

pub returns-in-Some-clause-load : goal.returns-in-Some-clause-load
returns-in-Some-clause-load g c = λ packets is.
    let same : packets ≡ c.in-Some.packets = one_load packets c.in-Some.packets _ is c.in-Some.ensures.load in
    rw same c.run_load.ensures.load

pub returns-in-Some-clause-usage : goal.returns-in-Some-clause-usage
returns-in-Some-clause-usage g c = λ none. absurd (none c.in-Some.packets c.in-Some.ensures.load)

pub returns-in-Some-clause-usage_words : goal.returns-in-Some-clause-usage_words
returns-in-Some-clause-usage_words g c = λ is. absurd (c.run_load.ensures.not_usage is)

pub returns-in-None-clause-unread : goal.returns-in-None-clause-unread
returns-in-None-clause-unread g c =
    unread-of g.K.Sink c.args.output.now c.write_all.new.sink usage_text c.write_all.result c.after_write.result 2 c.after_write.ensures.whole c.after_write.ensures.failed (inr (inl refl))
    (record { bytes = c.write_all.ensures.bytes; cause = c.write_all.ensures.cause; room = λ n takes fits. (c.write_all.ensures.room n takes fits).0; last = c.write_all.ensures.few_writes_at_err })

pub returns-in-None-clause-load : goal.returns-in-None-clause-load
returns-in-None-clause-load g c = λ packets is. absurd (c.in-None.ensures.none refl packets is)

pub returns-in-None-clause-usage : goal.returns-in-None-clause-usage
returns-in-None-clause-usage g c = λ none.
    text-writes g.K.Sink c.args.output.now c.write_all.new.sink usage_text c.write_all.result c.after_write.result 2 c.after_write.ensures.whole c.after_write.ensures.failed (λ e. omega (arith, e))
    (record { bytes = c.write_all.ensures.bytes; cause = c.write_all.ensures.cause; room = λ n takes fits. (c.write_all.ensures.room n takes fits).0; last = c.write_all.ensures.few_writes_at_err })

pub returns-in-None-clause-usage_words : goal.returns-in-None-clause-usage_words
returns-in-None-clause-usage_words g c = λ is. c.in-None.ensures.none refl
