use Rattle.std.proofs.Common.{◌≡◌, ◌*◌, length, take, drop}
use Rattle.board_model.specs.FileWords.{pairs_of}
use Rattle.board_model.proofs.WordDigits.{after_bytes}
use Rattle.mc_journal.proofs.pieces.decode_lower.Given as goal

abbrev pub invariant-loop-i : goal.invariant-loop-i
invariant-loop-i l = record {
  so_far : after_bytes (take l.i l.out) (pairs_of (drop (2 * l.i) l.word)) ≡ pairs_of l.word;
  size : length l.word ≡ 2 * length l.out;
}
