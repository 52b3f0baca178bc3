use Rattle.std.proofs.Common.{arith}
use Rattle.view_cli.proofs.pictures.tell_sequence.Goals as goal

pub returns-in-Ok-clause-draws : goal.returns-in-Ok-clause-draws
returns-in-Ok-clause-draws g c = λ done.
    let order = rw (← c.deref.ensures.value) at c.in-Ok.ensures.order in
    c.draw_sequence.ensures.draws _ order done

pub returns-in-Err-clause-draws : goal.returns-in-Err-clause-draws
returns-in-Err-clause-draws g c = λ done. absurd (omega (arith, c.refuse.ensures.other, done))
