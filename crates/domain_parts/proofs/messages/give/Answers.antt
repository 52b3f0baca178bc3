use Rattle.std.proofs.Common.{◌+◌, ◌≤◌, length, take, ap, arith, length-append}
use Rattle.domain_parts.specs.InBook.{frames_at}
use Rattle.domain_parts.proofs.Copying.{content-next, content-within, contents_of_frames, copied-next}
use Rattle.domain_parts.proofs.messages.give.Goals as goal
use Rattle.mc_base.specs.Limits.{item_size}

pub overflow_add-size : goal.overflow_add-size
overflow_add-size c =
    let next = content-next c.args.book.now c.args.slot c.loop-n.n c.piece-piece.result.now c.requires.queued c.piece-piece.ensures in
    let within : c.loop-n.size + length c.piece-piece.result.now ≤ item_size = omega (arith, c.loop-n.invariant.size_is, ap length next, length-append (contents_of_frames c.args.book.now c.args.slot.peer (take c.loop-n.n (frames_at c.args.book.now c.args.slot))) c.piece-piece.result.now, content-within c.args.book.now c.args.slot (c.loop-n.n + 1), c.requires.short) in
    omega (arith, within)

pub loop-n-preserved : goal.loop-n-preserved
loop-n-preserved c = copied-next c.args.book.now c.args.slot c.args.most c.loop-n.n c.loop-n.size c.loop-n.given c.append-given.result c.args.out.now c.loop-n.out c.append-given.new.out c.piece-piece.result.now c.loop-n.invariant c.requires.room c.requires.queued c.piece-piece.ensures c.append-given.ensures.count c.append-given.ensures.bytes c.append-given.ensures.rest c.append-given.auto.out
