use Rattle.std.proofs.Common.{rules}
use Rattle.outer_io.proofs.writer.Writer.put.Goals as goal

pub returns : goal.returns
returns g c = rw (c.gathers.ensures.full (search rules)).0 at c.put_after.ensures
