use Rattle.std.proofs.Common.{◌≡◌, ◌≤◌, ◌+◌, length}
use Rattle.board_model.specs.FileLines.{lines_of}
use Rattle.board_model.specs.Language.{told_from, told_by}
use Rattle.scenario_lang.specs.Telling.{Keeps}
use Rattle.scenario_lang.proofs.reading.lines_told.Given as goal

abbrev pub invariant-loop-rest : goal.invariant-loop-rest
invariant-loop-rest l = record {
  told : told_from l.number l.above.told (lines_of l.rest) ≡ told_by l.text;
  keeps : Keeps l.above.labels l.above.told;
  numbered : l.number + length l.rest ≤ length l.text + 1;
}

abbrev pub decreases-loop-rest : goal.decreases-loop-rest
decreases-loop-rest l = length l.rest
