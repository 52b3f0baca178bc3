use Rattle.std.proofs.Common.{◌∙◌, sym, arith}
use Rattle.mc_base.proofs.FullNames.{OneMore, no_digit, one_more, too_large}
use Rattle.name_service.proofs.full_names.value.Goals as goal

pub returns-then-not-is_ascii_digit-clause-refused :
    goal.returns-then-not-is_ascii_digit-clause-refused
returns-then-not-is_ascii_digit-clause-refused c =
    λ all. absurd (no_digit c.args.digits.now c.loop-digit.digit-index c.loop-digit-test.true (sym c.is_ascii_digit.ensures.value ∙ c.if-not-is_ascii_digit.true) all.1)

-- the digits so far and the next, and their value
more : (c : goal.Then-next-from) → OneMore c.args.digits.now c.loop-digit.digit-index c.loop-digit.value
more c = one_more c.args.digits.now c.loop-digit.digit-index c.loop-digit.value c.loop-digit-test.true (sym c.is_ascii_digit.ensures.value ∙ c.if-not-is_ascii_digit.false) c.loop-digit.invariant.all c.loop-digit.invariant.valued

pub returns-then-next-from-clause-refused : goal.returns-then-next-from-clause-refused
returns-then-next-from-clause-refused c =
    λ all. too_large c.args.digits.now c.loop-digit.digit-index c.loop-digit.value c.args.most (more c) (omega (arith, c.if-next-from.true, c.from.ensures, c.from-in-loop-digit.ensures, c.from-in-loop-digit-2.ensures))

pub loop-digit-preserved : goal.loop-digit-preserved
loop-digit-preserved c =
    let m = one_more c.args.digits.now c.loop-digit.digit-index c.loop-digit.value c.loop-digit-test.true (sym c.is_ascii_digit.ensures.value ∙ c.if-not-is_ascii_digit.false) c.loop-digit.invariant.all c.loop-digit.invariant.valued in
    record {
      all = m.all;
      valued = omega (arith, m.valued, c.from.ensures, c.from-in-loop-digit.ensures);
      within = omega (arith, c.if-next-from.false, c.from-in-loop-digit-2.ensures);
    }
