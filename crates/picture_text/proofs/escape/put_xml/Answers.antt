use Rattle.std.proofs.Common.{get_or, refl}
use Rattle.outer_io.proofs.Writing.{puts_nothing, puts_item}
use Rattle.picture_text.specs.Escapes.{xml_of}
use Rattle.picture_text.proofs.escape.put_xml.Goals as goal

pub loop-byte-init : goal.loop-byte-init
loop-byte-init g c = puts_nothing g.K.Sink c.args.out.now

pub loop-byte-preserved : goal.loop-byte-preserved
loop-byte-preserved g c =
    puts_item g.K.Sink _ _ _ xml_of c.args.text.now c.loop-byte.byte-index (get_or c.args.text.now c.loop-byte.byte-index 0) 0 c.loop-byte-test.true refl c.loop-byte.invariant c.put_xml_byte.ensures
