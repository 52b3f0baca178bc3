use Rattle.std.proofs.Common.{◌≡◌, ◌++◌, length}
use Rattle.board_model.specs.FileLines.{words_of}
use Rattle.scenario_lang.specs.Reading.{seen}
use Rattle.scenario_lang.proofs.lines.find_words.Given as goal

abbrev pub invariant-loop-rest : goal.invariant-loop-rest
invariant-loop-rest l = seen l.words.items ++ words_of l.rest ≡ words_of l.line

abbrev pub decreases-loop-rest : goal.decreases-loop-rest
decreases-loop-rest l = length l.rest
