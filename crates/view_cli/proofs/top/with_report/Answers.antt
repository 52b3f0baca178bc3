use Rattle.std.proofs.Common.{arith}
use Rattle.view_cli.proofs.Showing.{not_listed, shows_after, shows_nothing}
use Rattle.view_cli.proofs.top.with_report.Goals as goal

pub returns-in-Ok-Wrong-clause-shows : goal.returns-in-Ok-Wrong-clause-shows
returns-in-Ok-Wrong-clause-shows g c =
    shows_after g.K.Sink _ _ c.write_wrong.result 3 c.after_write.result c.write_wrong.ensures c.after_write.ensures.whole c.after_write.ensures.failed (omega arith) (λ is. omega (arith, is))

pub returns-in-Ok-Wrong-clause-refused : goal.returns-in-Ok-Wrong-clause-refused
returns-in-Ok-Wrong-clause-refused g c = λ is few. absurd (not_listed c.write_wrong.result c.after_write.result c.after_write.ensures.whole c.after_write.ensures.failed few)

pub returns-in-Ok-Wrong-clause-expected : goal.returns-in-Ok-Wrong-clause-expected
returns-in-Ok-Wrong-clause-expected g c = λ is few. absurd (not_listed c.write_wrong.result c.after_write.result c.after_write.ensures.whole c.after_write.ensures.failed few)

pub returns-in-Ok-Wrong-clause-checked : goal.returns-in-Ok-Wrong-clause-checked
returns-in-Ok-Wrong-clause-checked g c = λ is few. absurd (not_listed c.write_wrong.result c.after_write.result c.after_write.ensures.whole c.after_write.ensures.failed few)

pub returns-in-Err-clause-shows : goal.returns-in-Err-clause-shows
returns-in-Err-clause-shows g c = shows_nothing g.K.Sink _

pub returns-in-Ok-Wrong-clause-sequence : goal.returns-in-Ok-Wrong-clause-sequence
returns-in-Ok-Wrong-clause-sequence g c = λ is done.
    absurd (not_listed c.write_wrong.result c.after_write.result c.after_write.ensures.whole c.after_write.ensures.failed (omega (arith, done)))

pub returns-in-Ok-Wrong-clause-lanes : goal.returns-in-Ok-Wrong-clause-lanes
returns-in-Ok-Wrong-clause-lanes g c = λ is done.
    absurd (not_listed c.write_wrong.result c.after_write.result c.after_write.ensures.whole c.after_write.ensures.failed (omega (arith, done)))

pub returns-in-Ok-Wrong-clause-trace : goal.returns-in-Ok-Wrong-clause-trace
returns-in-Ok-Wrong-clause-trace g c = λ is done.
    absurd (not_listed c.write_wrong.result c.after_write.result c.after_write.ensures.whole c.after_write.ensures.failed (omega (arith, done)))
