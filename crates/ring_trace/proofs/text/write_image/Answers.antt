use Rattle.std.proofs.Common.{rules}
use Rattle.outer_io.proofs.Finishing.{finished, puts_same}
use Rattle.ring_trace.proofs.text.write_image.Goals as goal

pub returns-clause-bytes : goal.returns-clause-bytes
returns-clause-bytes g c =
    let written = finished g.K.Sink c.new-out.result c.put_image.new.out _ c.finish.result _ c.new-out.ensures.sound c.new-out.ensures.empty c.put_image.ensures c.finish.ensures in
    let bytes = rw c.new-out.ensures.sink at written.bytes in
    let same = puts_same _ _ _ _ c.put_image.ensures in
    search rules

pub returns-clause-cause : goal.returns-clause-cause
returns-clause-cause g c =
    let written = finished g.K.Sink c.new-out.result c.put_image.new.out _ c.finish.result _ c.new-out.ensures.sound c.new-out.ensures.empty c.put_image.ensures c.finish.ensures in
    let cause = rw c.new-out.ensures.sink at written.cause in
    let same = puts_same _ _ _ _ c.put_image.ensures in
    search rules

pub returns-clause-room : goal.returns-clause-room
returns-clause-room g c =
    let written = finished g.K.Sink c.new-out.result c.put_image.new.out _ c.finish.result _ c.new-out.ensures.sound c.new-out.ensures.empty c.put_image.ensures c.finish.ensures in
    rw c.new-out.ensures.sink at written.room

pub returns-clause-few_writes_at_err : goal.returns-clause-few_writes_at_err
returns-clause-few_writes_at_err g c =
    let written = finished g.K.Sink c.new-out.result c.put_image.new.out _ c.finish.result _ c.new-out.ensures.sound c.new-out.ensures.empty c.put_image.ensures c.finish.ensures in
    let stops = rw c.new-out.ensures.sink at written.stops in
    let same = puts_same _ _ _ _ c.put_image.ensures in
    search rules
