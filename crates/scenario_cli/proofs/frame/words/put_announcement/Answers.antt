use Rattle.outer_io.proofs.Writing.{puts_then}
use Rattle.scenario_cli.proofs.FrameLines.{name_words}
use Rattle.scenario_cli.proofs.frame.words.put_announcement.Goals as goal

pub returns : goal.returns
returns g c =
    let word = rw c.announcement_word.ensures at c.put.ensures in
    let name = rw c.as_slice.ensures.value at c.put-2.ensures in
    rw name_words (puts_then _ _ _ _ _ _ word (puts_then _ _ _ _ _ _ name (puts_then _ _ _ _ _ _ c.put-3.ensures c.put_number.ensures)))
