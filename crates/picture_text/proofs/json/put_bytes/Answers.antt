use Rattle.outer_io.proofs.Writing.{puts_then}
use Rattle.picture_text.specs.Objects.{bytes_text}
use Rattle.picture_text.proofs.json.put_bytes.Goals as goal

pub returns : goal.returns
unfolding bytes_text
returns g c = puts_then _ _ _ _ _ _ c.put.ensures (puts_then _ _ _ _ _ _ c.put_hex.ensures c.put-2.ensures)
