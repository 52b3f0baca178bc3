use Rattle.outer_io.proofs.Writing.{puts_then}
use Rattle.picture_text.specs.Objects.{words_text}
use Rattle.picture_text.proofs.json.put_words.Goals as goal

pub returns : goal.returns
unfolding words_text
returns g c = puts_then _ _ _ _ _ _ c.put.ensures (puts_then _ _ _ _ _ _ c.put_json.ensures c.put-2.ensures)
