use Rattle.std.proofs.Common.{arith}
use Rattle.view_cli.specs.Drawn.{charted}
use Rattle.view_cli.proofs.PicturesWritten.{draws_after, text_of_picture}
use Rattle.view_cli.proofs.Showing.{shows_after}
use Rattle.view_cli.proofs.pictures.tell_lanes.Goals as goal

pub returns-in-Ok-clause-shows : goal.returns-in-Ok-clause-shows
returns-in-Ok-clause-shows g c =
    shows_after g.K.Sink _ _ c.write_lanes.result 0 c.after_write.result (text_of_picture g.K.Sink charted _ _ _ _ c.write_lanes.ensures) c.after_write.ensures.whole c.after_write.ensures.failed (omega arith) (λ is. omega (arith, is))

pub returns-in-Ok-clause-draws : goal.returns-in-Ok-clause-draws
returns-in-Ok-clause-draws g c = λ done.
    let order = rw (← c.deref.ensures.value) at c.in-Ok.ensures.order in
    draws_after g.K.Sink charted _ _ _ _ c.write_lanes.result _ c.write_lanes.ensures c.after_write.ensures.failed order done

pub returns-in-Err-clause-draws : goal.returns-in-Err-clause-draws
returns-in-Err-clause-draws g c = λ done. absurd (omega (arith, c.refuse.ensures.other, done))
