use Rattle.byteorder.specs.Endian.{little_bytes}
use Rattle.shared_words.specs.Layout.{field_at}
use Rattle.shared_words.specs.declared.field.Field.TheVariants.{UsedId, UsedLen}
use Rattle.ring_trace.proofs.HexPieces.{hex_then}
use Rattle.ring_trace.proofs.text.put_element.Goals as goal

pub returns : goal.returns
returns g c = hex_then g.K.Sink _ _ _ (little_bytes 4 (field_at c.args.words.now c.args.size (UsedId c.args.p))) (little_bytes 4 (field_at c.args.words.now c.args.size (UsedLen c.args.p))) c.put_word.ensures c.put_word-2.ensures
