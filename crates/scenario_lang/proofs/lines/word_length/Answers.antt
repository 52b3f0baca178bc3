use Rattle.std.proofs.Common.{not}
use Rattle.board_model.specs.FileLines.{is_blank}
use Rattle.board_model.proofs.WordSearch.{none_in_both}
use Rattle.scenario_lang.proofs.lines.word_length.Goals as goal

pub returns-then-count-eq-SHORT_WORD-clause-front : goal.returns-then-count-eq-SHORT_WORD-clause-front
returns-then-count-eq-SHORT_WORD-clause-front c = none_in_both (λ b. not (is_blank b)) c.args.text.now c.loop-count.count c.blank_at.result c.loop-count.invariant.front (rw c.split_at.ensures.back at c.blank_at.ensures.front)
