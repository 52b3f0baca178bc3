use Rattle.std.proofs.Common.{ap, sym, arith}
use Rattle.message_queue.specs.Queue.{Waiting}
use Rattle.message_queue.proofs.CellReads.{held_read}
use Rattle.message_queue.proofs.SoundCells.{take_places}
use Rattle.message_queue.proofs.cells.Cells.slot.Goals as goal

pub index-requires : goal.index-requires
index-requires c =
    let lt = (take_places c.args.self.now c.args.place c.requires.sound c.requires.first).0 in
    omega arith

pub returns : goal.returns
returns c =
    let lt = (take_places c.args.self.now c.args.place c.requires.sound c.requires.first).0 in
    ap (λ (w : Waiting). w.slot) (sym (held_read c.args.self.now.cells.items c.args.place c.index.result.now lt c.index.ensures))
