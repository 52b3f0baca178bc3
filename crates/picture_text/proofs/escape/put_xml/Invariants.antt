use Rattle.std.proofs.Common.{take}
use Rattle.std.specs.List.{flat_map}
use Rattle.outer_io.specs.Puts.{Puts}
use Rattle.picture_text.specs.Escapes.{xml_of}
use Rattle.picture_text.proofs.escape.put_xml.Given as goal

abbrev pub invariant-loop-byte : goal.invariant-loop-byte
invariant-loop-byte g l = Puts g.K.Sink l.initial.out l.out (flat_map xml_of (take l.byte-index l.text))
