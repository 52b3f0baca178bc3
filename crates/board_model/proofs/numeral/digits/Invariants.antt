use Rattle.std.proofs.Common.{◌≡◌, ◌≤◌, length}
use Rattle.board_model.specs.FileWords.{number_from}
use Rattle.board_model.proofs.numeral.digits.Given as goal

abbrev pub invariant-loop-rest : goal.invariant-loop-rest
invariant-loop-rest l = record {
  same : number_from l.value l.rest ≡ number_from 0 l.word;
  within : l.value ≤ l.most;
}

abbrev pub decreases-loop-rest : goal.decreases-loop-rest
decreases-loop-rest l = length l.rest
