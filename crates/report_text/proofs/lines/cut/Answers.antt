use Rattle.std.proofs.Common.{arith, ap, length}
use Rattle.mc_journal.proofs.Cuts.{cut-here, cut-none}
use Rattle.report_text.proofs.lines.cut.Goals as goal

pub returns-in-empty-clause-value : goal.returns-in-empty-clause-value
returns-in-empty-clause-value c =
    cut-none c.args.stop c.place_of.result c.args.text.now c.place_of.ensures.front (omega (arith, c.in-empty.len_below, ap (λ t. length t) c.split_at.ensures.back))

pub returns-in-len1-up-clause-value : goal.returns-in-len1-up-clause-value
returns-in-len1-up-clause-value c =
    rw (c.split_at.ensures.front, c.split_at.ensures.back)
    (cut-here c.args.stop c.place_of.result c.args.text.now c.place_of.ensures.front c.place_of.ensures.end (omega (arith, c.in-len1-up.len_at_least, ap (λ t. length t) c.split_at.ensures.back)))
