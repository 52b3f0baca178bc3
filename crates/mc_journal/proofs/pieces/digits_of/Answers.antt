use Rattle.std.proofs.Common.{◌≡◌, ◌%◌, Bool, true, false, length, sym, ◌∙◌, arith}
use Rattle.std.specs.Prelude.{◌==◌}
use Rattle.std.specs.List.{list_all}
use Rattle.std.proofs.lemmas.Bool.Decides.{nat_tests}
use Rattle.board_model.specs.FileWords.{is_dash}
use Rattle.mc_journal.specs.Spelled.{is_lower}
use Rattle.mc_journal.proofs.DigitsRead.{odd_none, other_none, lower_some, lower_count}
use Rattle.mc_journal.proofs.pieces.digits_of.Goals as goal

pub returns-then-word-ne0-clause-value : goal.returns-then-word-ne0-clause-value
returns-then-word-ne0-clause-value c =
    let odd : length c.args.word.now % 2 ≡ 1 = grind (arith, nat_tests, c.if-word-ne0.true) in
    let dash : is_dash c.args.word.now ≡ false = grind (arith, c.is_dash.ensures, c.if-is_dash.false) in
    sym (odd_none c.args.word.now dash odd)

pub returns-then-are_lower_digits-clause-value : goal.returns-then-are_lower_digits-clause-value
returns-then-are_lower_digits-clause-value c =
    let dash : is_dash c.args.word.now ≡ false = grind (arith, c.is_dash.ensures, c.if-is_dash.false) in
    let full : (length c.args.word.now == 0) ≡ false = grind (arith, nat_tests, c.is_empty.ensures, c.if-is_empty.false) in
    let even : length c.args.word.now % 2 ≡ 0 = grind (arith, nat_tests, c.if-word-ne0.false) in
    let lower : list_all is_lower c.args.word.now ≡ true = grind (arith, c.are_lower_digits.ensures, c.if-are_lower_digits.true) in
    lower_some c.args.word.now dash full even lower

pub returns-then-are_lower_digits-clause-count : goal.returns-then-are_lower_digits-clause-count
returns-then-are_lower_digits-clause-count c =
    let even : length c.args.word.now % 2 ≡ 0 = grind (arith, nat_tests, c.if-word-ne0.false) in
    let lower : list_all is_lower c.args.word.now ≡ true = grind (arith, c.are_lower_digits.ensures, c.if-are_lower_digits.true) in
    lower_count c.args.word.now even lower

pub returns-else-are_lower_digits-clause-value : goal.returns-else-are_lower_digits-clause-value
returns-else-are_lower_digits-clause-value c =
    let dash : is_dash c.args.word.now ≡ false = grind (arith, c.is_dash.ensures, c.if-is_dash.false) in
    let other : list_all is_lower c.args.word.now ≡ false = grind (arith, c.are_lower_digits.ensures, c.if-are_lower_digits.false) in
    sym (other_none c.args.word.now dash other)
