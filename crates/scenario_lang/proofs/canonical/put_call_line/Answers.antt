use Rattle.outer_io.proofs.Writing.{puts_then}
use Rattle.scenario_lang.proofs.CanonicalLemmas.{line_of-call}
use Rattle.scenario_lang.proofs.canonical.put_call_line.Goals as goal

pub returns : goal.returns
returns g c =
    rw line_of-call (puts_then _ _ _ _ _ _ c.put_caller.ensures (puts_then _ _ _ _ _ _ c.put.ensures (puts_then _ _ _ _ _ _ c.put_label.ensures (puts_then _ _ _ _ _ _ c.put_tries.ensures (puts_then _ _ _ _ _ _ c.put_call.ensures c.put-2.ensures)))))
