use Rattle.std.proofs.Common.{arith, ap, length, List, ℕ}
use Rattle.scenario_lang.proofs.FrontLemmas.{first_line-ended, first_line-open}
use Rattle.scenario_lang.proofs.lines.first_line.Goals as goal

pub returns-in-empty-clause-line : goal.returns-in-empty-clause-line
returns-in-empty-clause-line c =
    rw (c.split_at.ensures.front, c.split_at.ensures.back)
    (first_line-open c.length_before.result c.args.text.now c.length_before.ensures.front (omega (arith, c.in-empty.len_below, ap (λ (t : List ℕ). length t) c.split_at.ensures.back)) c.requires)

pub returns-in-len1-up-clause-line : goal.returns-in-len1-up-clause-line
returns-in-len1-up-clause-line c =
    rw (c.without_return.ensures, c.split_at.ensures.front, c.split_at.ensures.back)
    (first_line-ended c.length_before.result c.args.text.now c.length_before.ensures.front c.length_before.ensures.end (omega (arith, c.in-len1-up.len_at_least, ap (λ (t : List ℕ). length t) c.split_at.ensures.back)))
