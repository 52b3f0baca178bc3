use Rattle.outer_io.proofs.Writing.{puts_then}
use Rattle.view_expect.specs.Outcomes.{outcome_line}
use Rattle.view_expect.proofs.tap.put_line.Goals as goal

pub returns : goal.returns
unfolding outcome_line
returns g c =
    let word = rw c.ok_word.ensures at c.put.ensures in
    puts_then _ _ _ _ _ _ word (puts_then _ _ _ _ _ _ c.put-2.ensures (puts_then _ _ _ _ _ _ c.put_number.ensures
    (puts_then _ _ _ _ _ _ c.put-3.ensures (puts_then _ _ _ _ _ _ c.put-4.ensures c.put-5.ensures))))
