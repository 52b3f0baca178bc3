use Rattle.std.proofs.Common.{arith, ap, length}
use Rattle.scenario_lang.proofs.FrontLemmas.{cut-here, cut-none}
use Rattle.scenario_lang.proofs.lines.cut.Goals as goal

pub returns-in-empty : goal.returns-in-empty
returns-in-empty c =
    cut-none c.args.separator c.length_before.result c.args.word.now c.length_before.ensures.front (omega (arith, c.in-empty.len_below, ap (λ t. length t) c.split_at.ensures.back))

pub returns-in-len1-up : goal.returns-in-len1-up
returns-in-len1-up c =
    rw (c.split_at.ensures.front, c.split_at.ensures.back)
    (cut-here c.args.separator c.length_before.result c.args.word.now c.length_before.ensures.front c.length_before.ensures.end (omega (arith, c.in-len1-up.len_at_least, ap (λ t. length t) c.split_at.ensures.back)))
