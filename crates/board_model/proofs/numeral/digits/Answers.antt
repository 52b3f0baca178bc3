use Rattle.std.proofs.Common.{◌≡◌, ◌<◌, ◌+◌, ◌-◌, ◌*◌, get_or, true, arith}
use Rattle.std.proofs.lemmas.Bool.Decides.{nat_tests}
use Rattle.board_model.specs.FileWords.{is_digit}
use Rattle.board_model.proofs.WordDigits.{too_large}
use Rattle.board_model.proofs.numeral.digits.Goals as goal

pub returns-then-digit-most : goal.returns-then-digit-most
returns-then-digit-most c =
    let digit : is_digit (get_or c.loop-rest.rest.now 0 0) ≡ true = grind (arith, c.is_digit.ensures, c.if-not-is_digit.false) in
    let large : c.args.most < c.loop-rest.value * 10 + (get_or c.loop-rest.rest.now 0 0 - 48) = grind (arith, nat_tests, c.from-digit.ensures, c.if-digit-most.true) in
    too_large c.args.most c.loop-rest.value c.loop-rest.rest.now c.args.word.now c.in-len1-up.len_at_least digit large c.loop-rest.invariant.same

pub returns-then-value-most : goal.returns-then-value-most
returns-then-value-most c =
    let digit : is_digit (get_or c.loop-rest.rest.now 0 0) ≡ true = grind (arith, c.is_digit.ensures, c.if-not-is_digit.false) in
    let large : c.args.most < c.loop-rest.value * 10 + (get_or c.loop-rest.rest.now 0 0 - 48) = grind (arith, nat_tests, c.from-digit.ensures, c.if-value-most.true) in
    too_large c.args.most c.loop-rest.value c.loop-rest.rest.now c.args.word.now c.in-len1-up.len_at_least digit large c.loop-rest.invariant.same
