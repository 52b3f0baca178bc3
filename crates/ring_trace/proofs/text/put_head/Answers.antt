use Rattle.std.specs.Prelude.{slice_index}
use Rattle.byteorder.specs.Endian.{little_bytes}
use Rattle.ring_trace.proofs.HexPieces.{hex_then}
use Rattle.ring_trace.proofs.text.put_head.Goals as goal

pub returns : goal.returns
returns g c = hex_then g.K.Sink _ _ _ (little_bytes 2 (slice_index c.args.words.now c.args.flags)) (little_bytes 2 (slice_index c.args.words.now c.args.idx)) c.put_word.ensures c.put_word-2.ensures
