use Rattle.std.proofs.Common.{rules}
use Rattle.outer_io.proofs.Finishing.{finished, puts_same}
use Rattle.report_totals.proofs.rings.lines.write_ring.Goals as goal

pub returns : goal.returns
returns g c =
    let written = finished g.K.Sink c.new-out.result c.put_ring.new.out _ c.finish.result _ c.new-out.ensures.sound c.new-out.ensures.empty c.put_ring.ensures c.finish.ensures in
    let bytes = rw c.new-out.ensures.sink at written.bytes in
    let same = puts_same _ _ _ _ c.put_ring.ensures in
    search rules
