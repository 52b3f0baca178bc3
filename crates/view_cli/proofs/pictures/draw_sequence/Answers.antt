use Rattle.std.proofs.Common.{arith}
use Rattle.view_cli.specs.Drawn.{sequenced}
use Rattle.view_cli.proofs.PicturesWritten.{draws_after, text_of_picture}
use Rattle.view_cli.proofs.Showing.{shows_after, shows_nothing}
use Rattle.view_cli.proofs.pictures.draw_sequence.Goals as goal

pub returns-clause-shows : goal.returns-clause-shows
returns-clause-shows g c =
    let part = rw c.first_place-from.ensures at (rw c.last_place-to.ensures at c.in-Ok.ensures) in
    shows_after g.K.Sink _ _ c.write_sequence.result 0 c.after_write.result (text_of_picture g.K.Sink (sequenced c.args.asked) _ _ _ _ (c.write_sequence.ensures c.args.asked part)) c.after_write.ensures.whole c.after_write.ensures.failed (omega arith) (λ is. omega (arith, is))

pub returns-clause-draws : goal.returns-clause-draws
returns-clause-draws g c = λ domains order done.
    let part = rw c.first_place-from.ensures at (rw c.last_place-to.ensures at c.in-Ok.ensures) in
    draws_after g.K.Sink (sequenced c.args.asked) domains _ _ _ c.write_sequence.result _ (c.write_sequence.ensures c.args.asked part) c.after_write.ensures.failed order done

pub returns-in_default-clause-shows : goal.returns-in_default-clause-shows
returns-in_default-clause-shows g c = shows_nothing g.K.Sink _

pub returns-in_default-clause-draws : goal.returns-in_default-clause-draws
returns-in_default-clause-draws g c = λ domains order done. absurd (omega (arith, done))
