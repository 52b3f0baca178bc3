use Rattle.outer_io.proofs.Writing.{puts_nothing}
use Rattle.board_runner.proofs.report.put_images.Goals as goal

pub put_rings-requires : goal.put_rings-requires
put_rings-requires g c =
    let rings = rw c.if-threads.true at c.requires in
    rw (c.as_slice.ensures, c.as_slice-then-threads.ensures) rings

pub returns-then-threads : goal.returns-then-threads
returns-then-threads g c =
    let rings = rw (c.as_slice.ensures, c.as_slice-then-threads.ensures) at c.put_rings.ensures in
    rw c.if-threads.true rings

pub returns-else-threads : goal.returns-else-threads
returns-else-threads g c = rw c.if-threads.false (puts_nothing g.K.Sink c.args.out.now)
