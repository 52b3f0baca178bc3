use Rattle.std.proofs.Common.{arith, ◌≡◌, ◌≢◌, ◌-◌, ◌≤◌, length, get_or, drop}
use Rattle.std.proofs.lemmas.Bool.Decides.{nat_tests}
use Rattle.scenario_lang.proofs.FrontLemmas.{unreturned-last, unreturned-other}
use Rattle.scenario_lang.proofs.lines.without_return.Goals as goal

pub returns-then-last-eq13 : goal.returns-then-last-eq13
returns-then-last-eq13 c =
    let some : 1 ≤ length c.args.line.now = grind (arith, nat_tests, c.is_empty.ensures, c.if-is_empty.false) in
    let last : get_or (drop (length c.args.line.now - 1) c.args.line.now) 0 0 ≡ 13 = rw (← c.split_at.ensures.back) (grind (arith, nat_tests, c.if-last-eq13.true)) in
    rw c.split_at.ensures.front (unreturned-last c.args.line.now (length c.args.line.now - 1) (omega (arith, c.split_at.ensures.front_len, c.split_at.ensures.back_len)) last)

pub returns-else-last-eq13 : goal.returns-else-last-eq13
returns-else-last-eq13 c =
    let some : 1 ≤ length c.args.line.now = grind (arith, nat_tests, c.is_empty.ensures, c.if-is_empty.false) in
    let last : get_or (drop (length c.args.line.now - 1) c.args.line.now) 0 0 ≢ 13 = rw (← c.split_at.ensures.back) (grind (arith, nat_tests, c.if-last-eq13.false)) in
    unreturned-other c.args.line.now (length c.args.line.now - 1) (omega (arith, c.split_at.ensures.front_len, c.split_at.ensures.back_len)) last
