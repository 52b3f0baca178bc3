use Rattle.board_model.specs.Numerals.{is_other}
use Rattle.board_model.proofs.WordSearch.{none_in_both}
use Rattle.board_model.proofs.numeral.length_before.Goals as goal

pub returns-then-count-eq-SHORT_WORD-clause-front : goal.returns-then-count-eq-SHORT_WORD-clause-front
returns-then-count-eq-SHORT_WORD-clause-front c = none_in_both (is_other c.args.stop) c.args.text.now c.loop-count.count c.place_of.result c.loop-count.invariant.front (rw c.split_at.ensures.back at c.place_of.ensures.front)
