use Rattle.outer_io.proofs.Writing.{puts_then}
use Rattle.board_numbers.proofs.number_lines.put_messages.Goals as goal

pub returns : goal.returns
returns g c = puts_then _ _ _ _ _ _ c.put.ensures c.put_totals.ensures
