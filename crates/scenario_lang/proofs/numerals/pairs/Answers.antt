use Rattle.std.proofs.Common.{ap, ◌≡◌, ◌%◌, length, arith}
use Rattle.std.proofs.lemmas.Bool.Decides.{nat_tests}
use Rattle.scenario_lang.specs.Reading.{some_bytes}
use Rattle.board_model.proofs.WordDigits.{odd_pairs}
use Rattle.scenario_lang.proofs.numerals.pairs.Goals as goal

pub returns-then-word-ne0 : goal.returns-then-word-ne0
returns-then-word-ne0 c =
    let odd : length c.args.word.now % 2 ≡ 1 = grind (arith, nat_tests, c.if-word-ne0.true) in
    ap some_bytes (odd_pairs c.args.word.now odd)
