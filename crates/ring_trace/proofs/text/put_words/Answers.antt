use Rattle.std.proofs.Common.{ℕ, ◌+◌, ◌*◌, List, [], ◌∷◌, ◌++◌}
use Rattle.board_model.specs.RingImage.{for_each}
use Rattle.ring_trace.specs.WordImage.{word_descriptor, word_entry, word_element, ring_head}
use Rattle.ring_trace.proofs.HexPieces.{hex_then}
use Rattle.ring_trace.proofs.text.put_words.Goals as goal

pub returns : goal.returns
returns g c =
    let words = c.args.words.now in
    let size = c.args.size in
    let used = for_each (word_element size words) size in
    let offered = for_each (word_entry size words) size in
    let used_head = ring_head words (5 * size + 2) (5 * size + 3) in
    let zeros : List ℕ = 0 ∷ 0 ∷ 0 ∷ 0 ∷ [] in
    let end : List ℕ = 0 ∷ 0 ∷ [] in
    hex_then g.K.Sink _ _ _ (for_each (word_descriptor size words) size) (ring_head words (4 * size) (4 * size + 1) ++ (offered ++ (zeros ++ (used_head ++ (used ++ end))))) c.put_descriptors.ensures
    (hex_then g.K.Sink _ _ _ (ring_head words (4 * size) (4 * size + 1)) (offered ++ (zeros ++ (used_head ++ (used ++ end)))) c.put_head.ensures
    (hex_then g.K.Sink _ _ _ offered (zeros ++ (used_head ++ (used ++ end))) c.put_offered.ensures
    (hex_then g.K.Sink _ _ _ zeros (used_head ++ (used ++ end)) c.put_hex.ensures
    (hex_then g.K.Sink _ _ _ used_head (used ++ end) c.put_head-2.ensures
    (hex_then g.K.Sink _ _ _ used end c.put_used.ensures c.put_hex-2.ensures)))))
