use Rattle.std.proofs.Common.{arith, rules}
use Rattle.board_model.specs.FileWords.{pairs_of}
use Rattle.board_model.proofs.WordDigits.{nothing_before}
use Rattle.mc_journal.proofs.DigitsRead.{paired}
use Rattle.mc_journal.proofs.pieces.decode_lower.Goals as goal

pub loop-i-init : goal.loop-i-init
loop-i-init c = record {
  so_far = nothing_before (pairs_of c.args.word.now);
  size = c.requires.size;
}

pub loop-i-preserved : goal.loop-i-preserved
loop-i-preserved c =
    let inv = c.loop-i.invariant in
    record {
      so_far = paired c.args.word.now c.loop-i.out c.loop-i.i c.byte_of_digits.result inv.size (omega (arith, c.loop-i-test.true, c.loop-i.auto.out)) c.requires.lower c.byte_of_digits.ensures inv.so_far;
      size = search rules;
    }
