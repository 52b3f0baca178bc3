use Rattle.std.proofs.Common.{arith}
use Rattle.view_cli.proofs.Showing.{not_listed, shows_after, shows_nothing}
use Rattle.view_cli.proofs.top.show_report.Goals as goal

pub returns-in-Err-Wrong-clause-shows : goal.returns-in-Err-Wrong-clause-shows
returns-in-Err-Wrong-clause-shows g c =
    shows_after g.K.Sink _ _ c.write_wrong.result 3 c.after_write.result c.write_wrong.ensures c.after_write.ensures.whole c.after_write.ensures.failed (omega arith) (λ is. omega (arith, is))

pub returns-in-Err-NoMemory-clause-shows : goal.returns-in-Err-NoMemory-clause-shows
returns-in-Err-NoMemory-clause-shows g c = shows_nothing g.K.Sink _

pub returns-in-Err-Wrong-clause-refused : goal.returns-in-Err-Wrong-clause-refused
returns-in-Err-Wrong-clause-refused g c = λ is few. absurd (not_listed c.write_wrong.result c.after_write.result c.after_write.ensures.whole c.after_write.ensures.failed few)

pub returns-in-Err-Wrong-clause-expected : goal.returns-in-Err-Wrong-clause-expected
returns-in-Err-Wrong-clause-expected g c = λ is few. absurd (not_listed c.write_wrong.result c.after_write.result c.after_write.ensures.whole c.after_write.ensures.failed few)

pub returns-in-Ok-clause-refused : goal.returns-in-Ok-clause-refused
returns-in-Ok-clause-refused g c = λ is few.
    let shown = c.show.ensures.refused is (omega (arith, few)) in
    record { view = c.in-Ok.view; told = c.in-Ok.ensures.told; journals = c.in-Ok.ensures.journals; text = shown.0; lists = shown.1; written = shown.2 }

pub returns-in-Ok-clause-expected : goal.returns-in-Ok-clause-expected
returns-in-Ok-clause-expected g c = λ is few.
    record { view = c.in-Ok.view; told = c.in-Ok.ensures.told; journals = c.in-Ok.ensures.journals; answers = c.show.ensures.expected is few }

pub returns-in-Ok-clause-sequence : goal.returns-in-Ok-clause-sequence
returns-in-Ok-clause-sequence g c = λ is done.
    record { view = c.in-Ok.view; told = c.in-Ok.ensures.told; journals = c.in-Ok.ensures.journals; draws = c.show.ensures.sequence is done }

pub returns-in-Err-Wrong-clause-sequence : goal.returns-in-Err-Wrong-clause-sequence
returns-in-Err-Wrong-clause-sequence g c = λ is done.
    absurd (not_listed c.write_wrong.result c.after_write.result c.after_write.ensures.whole c.after_write.ensures.failed (omega (arith, done)))

pub returns-in-Ok-clause-lanes : goal.returns-in-Ok-clause-lanes
returns-in-Ok-clause-lanes g c = λ is done.
    record { view = c.in-Ok.view; told = c.in-Ok.ensures.told; journals = c.in-Ok.ensures.journals; draws = c.show.ensures.lanes is done }

pub returns-in-Err-Wrong-clause-lanes : goal.returns-in-Err-Wrong-clause-lanes
returns-in-Err-Wrong-clause-lanes g c = λ is done.
    absurd (not_listed c.write_wrong.result c.after_write.result c.after_write.ensures.whole c.after_write.ensures.failed (omega (arith, done)))

pub returns-in-Ok-clause-trace : goal.returns-in-Ok-clause-trace
returns-in-Ok-clause-trace g c = λ is done.
    record { view = c.in-Ok.view; told = c.in-Ok.ensures.told; journals = c.in-Ok.ensures.journals; draws = c.show.ensures.trace is done }

pub returns-in-Err-Wrong-clause-trace : goal.returns-in-Err-Wrong-clause-trace
returns-in-Err-Wrong-clause-trace g c = λ is done.
    absurd (not_listed c.write_wrong.result c.after_write.result c.after_write.ensures.whole c.after_write.ensures.failed (omega (arith, done)))
