use Rattle.std.proofs.Common.{◌∙◌, sym, arith}
use Rattle.mc_base.proofs.FullNames.{value-read, value-refused, zero-refused}
use Rattle.name_service.proofs.full_names.number.Goals as goal

pub returns-clause-read : goal.returns-clause-read
returns-clause-read c = value-read c.args.text.now c.args.most c.value.result c.ranges.most.fits (sym c.has_leading_zero.ensures ∙ c.if-has_leading_zero.false) c.value.ensures.read

pub returns-clause-refused : goal.returns-clause-refused
returns-clause-refused c = value-refused c.args.text.now c.args.most c.value.result c.ranges.most.fits c.value.ensures.refused

pub returns-then-has_leading_zero-clause-refused : goal.returns-then-has_leading_zero-clause-refused
returns-then-has_leading_zero-clause-refused c = λ n le same. zero-refused c.args.text.now n (omega (arith, le, c.ranges.most.fits)) (sym c.has_leading_zero.ensures ∙ c.if-has_leading_zero.true) same
