use Rattle.std.proofs.Common.{arith, ap, length, List, ℕ}
use Rattle.actor_lang.proofs.PartLemmas.{part_here, part_last}
use Rattle.actor_lang.proofs.lines.first_part.Goals as goal

pub returns-in-empty-clause-parts : goal.returns-in-empty-clause-parts
returns-in-empty-clause-parts c =
    rw c.split_at.ensures.front
    (part_last c.args.separator c.length_before.result c.args.text.now c.length_before.ensures.front (omega (arith, c.in-empty.len_below, ap (λ (t : List ℕ). length t) c.split_at.ensures.back)))

pub returns-in-len1-up-clause-parts : goal.returns-in-len1-up-clause-parts
returns-in-len1-up-clause-parts c =
    rw (c.split_at.ensures.front, c.split_at.ensures.back)
    (part_here c.args.separator c.length_before.result c.args.text.now c.length_before.ensures.front c.length_before.ensures.end (omega (arith, c.in-len1-up.len_at_least, ap (λ (t : List ℕ). length t) c.split_at.ensures.back)))
