use Rattle.std.proofs.Common.{[], get_or, replicate}
use Rattle.report_check.specs.ToldTurns.{HasShortLines, IsToldOn}
use Rattle.report_check.proofs.ToldLines.{all-same, all-of}
use Rattle.report_check.proofs.ToldTexts.{told-visit}
use Rattle.report_check.proofs.told_turn.told_idle.Goals as goal

pub returns-clause-told : goal.returns-clause-told
returns-clause-told c = λ n other below.
    told-visit n [] (get_or (replicate 8 c.told_nothing.result) n other) (all-same (IsToldOn n []) c.told_nothing.result other 8 n below (c.told_nothing.ensures.told n))

pub returns-clause-short : goal.returns-clause-short
returns-clause-short c = λ size. all-of (HasShortLines size) c.told_nothing.result 8 (c.told_nothing.ensures.short size)
