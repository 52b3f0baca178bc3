use Rattle.std.proofs.Common.{arith}
use Rattle.view_cli.proofs.Showing.{shows_after, shows_nothing}
use Rattle.view_cli.proofs.wrong.refuse.Goals as goal

pub returns-in-NoCause-clause-shows : goal.returns-in-NoCause-clause-shows
returns-in-NoCause-clause-shows g c =
    shows_after g.K.Sink _ _ c.write_wrong.result 3 c.after_write.result c.write_wrong.ensures c.after_write.ensures.whole c.after_write.ensures.failed (omega arith) (λ is. omega (arith, is))

pub returns-in-NoMemory-clause-shows : goal.returns-in-NoMemory-clause-shows
returns-in-NoMemory-clause-shows g c = shows_nothing g.K.Sink _
