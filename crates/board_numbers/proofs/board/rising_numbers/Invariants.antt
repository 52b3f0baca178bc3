use Rattle.std.proofs.Common.{◌≡◌, ◌≤◌}
use Rattle.arrayvec.specs.ArrayVec.{array_vec_len}
use Rattle.board_numbers.proofs.BoardLemmas.{numbers_below}
use Rattle.board_numbers.proofs.board.rising_numbers.Given as goal

abbrev pub invariant-loop-number : goal.invariant-loop-number
invariant-loop-number l = record {
  items : l.numbers.items ≡ numbers_below l.scenario l.number;
  few : array_vec_len l.numbers ≤ l.number;
}
