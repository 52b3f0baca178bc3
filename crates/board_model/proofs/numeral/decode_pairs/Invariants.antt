use Rattle.std.proofs.Common.{◌≡◌, ◌*◌, true, false, length, take, drop, None}
use Rattle.board_model.specs.FileWords.{pairs_of}
use Rattle.board_model.proofs.WordDigits.{after_bytes}
use Rattle.board_model.proofs.numeral.decode_pairs.Given as goal

abbrev pub invariant-loop-i : goal.invariant-loop-i
invariant-loop-i l = record {
  yes : l.all ≡ true → after_bytes (take l.i l.out) (pairs_of (drop (2 * l.i) l.word)) ≡ pairs_of l.word;
  no : l.all ≡ false → pairs_of l.word ≡ None;
  size : length l.word ≡ 2 * length l.out;
}
