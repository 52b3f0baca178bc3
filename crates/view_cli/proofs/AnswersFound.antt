-- What becomes of the answers that a file expects, by the list of them.
use Rattle.std.proofs.Common.{◌≡◌, List, [], ◌∷◌, map, Result, Ok, Err, refl, ap, ◌∙◌}
use Rattle.std.specs.Prelude.{IfOk}
use Rattle.report_view.specs.Journals.{DomainTexts}
use Rattle.view_expect.specs.declared.comparing.Outcome.{Outcome}
use Rattle.view_expect.specs.declared.expectation.Expectation.{Expectation}
use Rattle.view_expect.specs.Expected.{Expected, told}
use Rattle.view_expect.specs.Outcomes.{outcome_on, verdict_of, verdict_on}

each : (js : List DomainTexts) (es : List Expectation) → map (outcome_on js) es ≡ map (verdict_on js) (map told es)
each js [] = refl
each js (e ∷ es) = ap (λ rest. verdict_on js (told e) ∷ rest) (each js es)

pub found : {V E : Type 0} (js : List DomainTexts) (es : List Expectation) (xs : List Expected) (items : V → List Outcome) (r : Result V E) → map told es ≡ xs → IfOk r (λ v. map verdict_of (items v) ≡ map (outcome_on js) es) → IfOk r (λ v. map verdict_of (items v) ≡ map (verdict_on js) xs)
found js es xs items (Ok v) is all = all ∙ each js es ∙ ap (map (verdict_on js)) is
found js es xs items (Err e) is all = tt
