use Rattle.std.proofs.Common.{arith}
use Rattle.view_cli.proofs.Showing.{shows_after}
use Rattle.view_cli.proofs.text.tell_text.Goals as goal

pub returns-in-Ok : goal.returns-in-Ok
returns-in-Ok g c =
    shows_after g.K.Sink _ _ c.write_text.result 0 c.after_write.result c.write_text.ensures c.after_write.ensures.whole c.after_write.ensures.failed (omega arith) (λ is. omega (arith, is))
