use Rattle.std.proofs.Common.{◌≡◌, ℕ, ◌+◌, true, false, cond, ap, sym, ◌∙◌, List, Some, None, bytes_eq, arith}
use Rattle.std.specs.Prelude.{option_map}
use Rattle.mc_journal.specs.Readers.{cut_at}
use Rattle.report_text.specs.TextLines.{first_other, lines_in, moved}
use Rattle.report_text.proofs.JournalSteps.{moved-moved}
use Rattle.report_text.proofs.TextFronts.{moved-cond, other-line, other-front, other-back}
use Rattle.report_text.proofs.scenario.line_of_difference.Goals as goal

pub returns-then-not-is_same-clause-value : goal.returns-then-not-is_same-clause-value
returns-then-not-is_same-clause-value c =
    let x : List ℕ × List ℕ = (c.in-Some.line.now, c.in-Some.after.now) in
    let y : List ℕ × List ℕ = (c.in-Some-cut.other.now, c.in-Some-cut.behind.now) in
    let front : cut_at 10 c.loop-line.front.now ≡ Some x = sym c.cut.ensures.value ∙ ap (option_map (λ z. (z.0.now, z.1.now))) c.in-Some.is in
    let back : cut_at 10 c.loop-line.back.now ≡ Some y = sym c.cut-in-Some.ensures.value ∙ ap (option_map (λ z. (z.0.now, z.1.now))) c.in-Some-cut.is in
    let here = other-line c.loop-line.front.now c.loop-line.back.now x y front back in
    let apart : bytes_eq x.0 y.0 ≡ false = sym c.is_same.ensures ∙ c.if-not-is_same.true in
    let number : c.loop-line.place ≡ c.loop-line.place + 0 = omega arith in
    ap Some number
    ∙ sym (ap (moved c.loop-line.place) (here ∙ ap (λ t. cond t (moved 1 (first_other (lines_in x.1) (lines_in y.1))) (Some 0)) apart))
    ∙ c.loop-line.invariant.value

pub loop-line-preserved : goal.loop-line-preserved
loop-line-preserved c =
    let x : List ℕ × List ℕ = (c.in-Some.line.now, c.in-Some.after.now) in
    let y : List ℕ × List ℕ = (c.in-Some-cut.other.now, c.in-Some-cut.behind.now) in
    let front : cut_at 10 c.loop-line.front.now ≡ Some x = sym c.cut.ensures.value ∙ ap (option_map (λ z. (z.0.now, z.1.now))) c.in-Some.is in
    let back : cut_at 10 c.loop-line.back.now ≡ Some y = sym c.cut-in-Some.ensures.value ∙ ap (option_map (λ z. (z.0.now, z.1.now))) c.in-Some-cut.is in
    let here = other-line c.loop-line.front.now c.loop-line.back.now x y front back in
    let same : bytes_eq x.0 y.0 ≡ true = sym c.is_same.ensures ∙ c.if-not-is_same.false in
    let short = c.in-Some.ensures.shorter in
    record {
      value = sym (moved-moved c.loop-line.place 1 (first_other (lines_in x.1) (lines_in y.1)))
          ∙ sym (ap (moved c.loop-line.place) (here ∙ ap (λ t. cond t (moved 1 (first_other (lines_in x.1) (lines_in y.1))) (Some 0)) same))
          ∙ c.loop-line.invariant.value;
      within = omega (arith, c.loop-line.invariant.within, short);
    }

pub returns-in_default-cut-clause-value : goal.returns-in_default-cut-clause-value
returns-in_default-cut-clause-value c =
    let none : cut_at 10 c.loop-line.back.now ≡ None = sym c.cut-in-Some.ensures.value ∙ ap (option_map (λ z. (z.0.now, z.1.now))) c.in_default-cut.is in
    c.unless_same.ensures
    ∙ sym (moved-cond c.loop-line.place (bytes_eq c.loop-line.front.now c.loop-line.back.now))
    ∙ sym (ap (moved c.loop-line.place) (other-back c.loop-line.front.now c.loop-line.back.now none))
    ∙ c.loop-line.invariant.value

pub returns-clause-value : goal.returns-clause-value
returns-clause-value c =
    let none : cut_at 10 c.loop-line.front.now ≡ None = sym c.cut.ensures.value ∙ ap (option_map (λ z. (z.0.now, z.1.now))) c.in_default.is in
    c.unless_same-2.ensures
    ∙ sym (moved-cond c.loop-line.place (bytes_eq c.loop-line.front.now c.loop-line.back.now))
    ∙ sym (ap (moved c.loop-line.place) (other-front c.loop-line.front.now c.loop-line.back.now none))
    ∙ c.loop-line.invariant.value
