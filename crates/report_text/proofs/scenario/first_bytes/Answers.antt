use Rattle.std.proofs.Common.{◌≡◌, ℕ, false, ap, sym, ◌∙◌, List, Some, None, arith}
use Rattle.std.specs.Prelude.{option_map, ◌==◌}
use Rattle.std.proofs.lemmas.Bool.Decides.{nat_tests}
use Rattle.mc_journal.specs.Readers.{cut_at}
use Rattle.report_text.proofs.TextFronts.{first-cut, first-uncut}
use Rattle.report_text.proofs.scenario.first_bytes.Goals as goal

pub loop-line-preserved : goal.loop-line-preserved
loop-line-preserved c =
    let x : List ℕ × List ℕ = (c.in-Some.line.now, c.in-Some.after.now) in
    let cut : cut_at 10 c.loop-line.rest.now ≡ Some x = sym c.cut.ensures.value ∙ ap (option_map (λ y. (y.0.now, y.1.now))) c.in-Some.is in
    let some : (c.loop-line.left == 0) ≡ false = grind (arith, nat_tests) in
    let size = first-cut c.loop-line.left c.loop-line.rest.now x cut some in
    let short = c.in-Some.ensures.shorter in
    record { bytes = omega (arith, c.loop-line.invariant.bytes, size); within = omega (arith, c.loop-line.invariant.within, short) }

pub returns-clause-value : goal.returns-clause-value
returns-clause-value c =
    let none : cut_at 10 c.loop-line.rest.now ≡ None = sym c.cut.ensures.value ∙ ap (option_map (λ y. (y.0.now, y.1.now))) c.in_default.is in
    let some : (c.loop-line.left == 0) ≡ false = grind (arith, nat_tests) in
    let size = first-uncut c.loop-line.left c.loop-line.rest.now none some in
    omega (arith, c.loop-line.invariant.bytes, size)
