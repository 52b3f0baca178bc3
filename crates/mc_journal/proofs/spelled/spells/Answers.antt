use Rattle.std.proofs.Common.{◌≡◌, ◌*◌, ◌/◌, ◌%◌, length, sym, ◌∙◌, arith, rules}
use Rattle.std.proofs.lemmas.Bool.Decides.{nat_tests}
use Rattle.mc_journal.proofs.DigitsAlone.{spelled_bytes}
use Rattle.mc_journal.proofs.PairsSpelled.{other_length, one_more, at_end, pairs_eq, bytes_small}
use Rattle.mc_journal.proofs.spelled.spells.Goals as goal

pub returns-then-digits-ne0-clause-value : goal.returns-then-digits-ne0-clause-value
returns-then-digits-ne0-clause-value c =
    let odd : length c.args.digits.now % 2 ≡ 1 = grind (arith, nat_tests, c.if-digits-ne0.true) in
    sym (other_length c.args.digits.now c.args.bytes.now (λ e. omega (arith, odd, e)))

pub returns-then-digits-bytes-clause-value : goal.returns-then-digits-bytes-clause-value
returns-then-digits-bytes-clause-value c =
    let even : length c.args.digits.now % 2 ≡ 0 = grind (arith, nat_tests, c.if-digits-ne0.false) in
    sym (other_length c.args.digits.now c.args.bytes.now (λ e. omega (arith, even, e, c.if-digits-bytes.true)))

pub loop-i-preserved : goal.loop-i-preserved
loop-i-preserved c =
    let inv = c.loop-i.invariant in
    record {
      so_far = one_more c.args.digits.now c.args.bytes.now c.loop-i.i c.loop-i.all c.digits_of_byte.result inv.size (omega (arith, c.loop-i-test.true, c.loop-i.auto.i-end)) c.digits_of_byte.ensures inv.so_far;
      size = inv.size;
    }

same_as : goal.returns-clause-value
same_as c =
    let inv = c.loop-i.invariant in
    at_end c.args.digits.now c.args.bytes.now c.loop-i.i c.loop-i.all (omega (arith, c.loop-i-test.false, c.loop-i.auto.i-end)) inv.so_far
    ∙ sym (pairs_eq c.args.digits.now c.args.bytes.now inv.size (bytes_small c.args.digits.now (λ i. omega (arith, c.type_inv.digits i))) (bytes_small c.args.bytes.now (λ i. omega (arith, c.type_inv.bytes i))))

pub returns-clause-value : goal.returns-clause-value
returns-clause-value c = same_as c

pub returns-clause-bytes : goal.returns-clause-bytes
returns-clause-bytes c = λ so. spelled_bytes c.args.digits.now c.args.bytes.now (bytes_small c.args.bytes.now (λ i. omega (arith, c.type_inv.bytes i))) (sym (same_as c) ∙ so)
