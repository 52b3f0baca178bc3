use Rattle.std.proofs.Common.{[]}
use Rattle.outer_io.proofs.Writing.{puts_then}
use Rattle.outer_io.proofs.writer.Writer.put_after.Goals as goal

pub returns : goal.returns
returns g c = puts_then g.K.Sink _ _ _ [] c.args.piece.now c.write_gathered.ensures.puts c.put_first.ensures
