use Rattle.std.proofs.Common.{◌≡◌, ◌∙◌, ℕ, List, take, ap, subst}
use Rattle.byteorder.specs.Endian.{little_bytes}
use Rattle.mc_base.specs.Text.{hex_digits, hex_text}
use Rattle.outer_io.specs.Puts.{Puts}
use Rattle.ring_trace.proofs.HexPieces.{field_text}
use Rattle.ring_trace.proofs.text.put_word.Goals as goal

pub returns : goal.returns
returns g c =
    let bytes : hex_text (take c.args.width c.to_le_bytes.result) ≡ hex_text (take c.args.width (little_bytes 8 c.word_at.result)) = ap (λ (l : List ℕ). hex_text (take c.args.width l)) c.to_le_bytes.ensures in
    let text = bytes ∙ (field_text c.args.width c.word_at.result c.requires.0 c.requires.1 ∙ ap (λ (w : ℕ). hex_digits (little_bytes c.args.width w)) c.word_at.ensures) in
    subst (λ (t : List ℕ). Puts g.K.Sink c.args.out.now c.put_hex.new.self t) text c.put_hex.ensures
