use Rattle.outer_io.proofs.Writing.{puts_then}
use Rattle.scenario_lang.proofs.canonical.put_comma_and.Goals as goal

pub returns : goal.returns
returns g c = rw (← c.as_slice.ensures.value) (puts_then _ _ _ _ _ _ c.put.ensures c.put-2.ensures)
