use Rattle.std.proofs.Common.{◌≡◌, ◌≤◌, ℕ, ◌+◌, max, ap, sym, ◌∙◌, List, [], ◌∷◌, ◌++◌, length, Some, None, arith}
use Rattle.std.specs.Prelude.{option_map}
use Rattle.std.proofs.Math.ListN.{length-append}
use Rattle.mc_journal.specs.Readers.{cut_at}
use Rattle.report_text.specs.Texts.{longest, longest_line}
use Rattle.report_text.proofs.TextCuts.{lines-uncut, longest-cut}
use Rattle.report_text.proofs.pass.longest_line.Goals as goal

longest-uncut : (text : List ℕ) → cut_at 10 text ≡ None → longest_line text ≤ length text
longest-uncut [] e = omega arith
longest-uncut (b ∷ bs) e =
    let same : longest_line (b ∷ bs) ≡ max (length (b ∷ bs)) 0 = ap longest (lines-uncut b bs e) in
    omega (arith, same)

pub loop-line-preserved : goal.loop-line-preserved
loop-line-preserved c =
    let x : List ℕ × List ℕ = (c.in-Some.line.now, c.in-Some.after.now) in
    let cut : cut_at 10 c.loop-line.rest.now ≡ Some x = sym c.cut.ensures.value ∙ ap (option_map (λ y. (y.0.now, y.1.now))) c.in-Some.is in
    let ended : length (c.in-Some.line.now ++ 10 ∷ []) ≡ length c.in-Some.line.now + 1 = length-append c.in-Some.line.now (10 ∷ []) in
    let more : c.max-longest.result ≡ max c.loop-line.longest (length c.in-Some.line.now + 1) = c.max-longest.ensures in
    omega (arith, c.loop-line.invariant, longest-cut c.loop-line.rest.now x cut, ended, more)

pub returns : goal.returns
returns c =
    let none : cut_at 10 c.loop-line.rest.now ≡ None = sym c.cut.ensures.value ∙ ap (option_map (λ y. (y.0.now, y.1.now))) c.in_default.is in
    omega (arith, c.loop-line.invariant, longest-uncut c.loop-line.rest.now none)
