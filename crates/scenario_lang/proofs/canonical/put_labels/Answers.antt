use Rattle.outer_io.proofs.Writing.{puts_then, puts_nothing}
use Rattle.scenario_lang.proofs.CanonicalLemmas.{commas-none, commas-front}
use Rattle.scenario_lang.proofs.canonical.put_labels.Goals as goal

pub returns-in_default : goal.returns-in_default
returns-in_default g c = rw (commas-none c.args.labels.now c.in_default.len_below) (puts_nothing g.K.Sink c.args.out.now)

pub returns : goal.returns
returns g c =
    rw (commas-front c.args.labels.now c.first-item.result c.in-len1-up.len_at_least c.first-item.is, ← c.as_slice.ensures.value)
    (puts_then _ _ _ _ _ _ c.put.ensures c.put_more_labels.ensures)
