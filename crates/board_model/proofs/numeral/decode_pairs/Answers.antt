use Rattle.std.proofs.Common.{arith, rules}
use Rattle.board_model.specs.FileWords.{pairs_of}
use Rattle.board_model.proofs.WordDigits.{decoded_step, nothing_before}
use Rattle.board_model.proofs.numeral.decode_pairs.Goals as goal

pub loop-i-init : goal.loop-i-init
loop-i-init c = record {
  yes = λ _. nothing_before (pairs_of c.args.word.now);
  no = λ h. absurd cc;
  size = c.requires;
}

pub loop-i-preserved : goal.loop-i-preserved
loop-i-preserved c =
    let inv = c.loop-i.invariant in
    let step = decoded_step c.args.word.now c.loop-i.out c.loop-i.i c.digit_or_none-high.result c.digit_or_none-low.result inv.size (omega (arith, c.loop-i-test.true, c.loop-i.auto.out)) c.digit_or_none-high.ensures c.digit_or_none-low.ensures c.loop-i.all inv.yes inv.no in
    record { yes = step.0; no = step.1; size = search rules }
