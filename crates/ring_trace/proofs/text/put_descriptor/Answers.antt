use Rattle.std.proofs.Common.{ℕ, ◌+◌, ◌*◌, List, ◌++◌}
use Rattle.std.specs.Prelude.{slice_index}
use Rattle.byteorder.specs.Endian.{little_bytes}
use Rattle.ring_trace.proofs.HexPieces.{hex_then}
use Rattle.ring_trace.proofs.text.put_descriptor.Goals as goal

pub returns : goal.returns
returns g c =
    let word : ℕ → ℕ → List ℕ = λ place width. little_bytes width (slice_index c.args.words.now place) in
    let first = 4 * c.args.i in
    hex_then g.K.Sink _ _ _ (word first 8) (word (first + 1) 4 ++ (word (first + 2) 2 ++ word (first + 3) 2)) c.put_word.ensures
    (hex_then g.K.Sink _ _ _ (word (first + 1) 4) (word (first + 2) 2 ++ word (first + 3) 2) c.put_word-2.ensures
    (hex_then g.K.Sink _ _ _ (word (first + 2) 2) (word (first + 3) 2) c.put_word-3.ensures c.put_word-4.ensures))
