-- What becomes of expected answers, and how that is written.
-- Source: docs/FORMATS.md, "Expected answers". The output is in the form of TAP, the Test Anything Protocol.
use Rattle.std.specs.Prelude.{ℕ, Bool, List, [], ◌∷◌, ◌++◌, length, codes, decimal, if◌then◌else◌}
use Rattle.std.specs.List.{flat_map, list_all}
use Rattle.report_view.specs.Journals.{DomainTexts}
use Rattle.view_expect.specs.declared.comparing.Outcome.{Outcome}
use Rattle.view_expect.specs.declared.expectation.Expectation.{Expectation}
use Rattle.view_expect.specs.Answers.{is_met}
use Rattle.view_expect.specs.Expected.{Expected, told}

-- an expected answer, and whether the report answers so
pub record Verdict : Type 0 where
  pub expected : Expected
  pub met : Bool

abbrev pub verdict_of : Outcome → Verdict
verdict_of o = record { expected = told o.expectation; met = o.is_met }

-- what the answers of a report come to
abbrev pub verdict_on : List DomainTexts → Expected → Verdict
verdict_on all e = record { expected = e; met = is_met all e }

abbrev pub outcome_on : List DomainTexts → Expectation → Verdict
outcome_on all e = verdict_on all (told e)

abbrev pub are_met : List Outcome → Bool
are_met outcomes = list_all (λ o. o.is_met) outcomes

-- ---- what is written

abbrev pub ok_word : Bool → List ℕ
ok_word met = if met then codes "ok " else codes "not ok "

-- below an answer that is not as expected
unfoldable pub difference : Outcome → List ℕ
difference o = codes "  ---\n  expected: " ++ (o.expectation.answer.now ++ (codes "\n  answer: " ++ (o.answer.now ++ codes "\n  ...\n")))

unfoldable pub outcome_line : Outcome → List ℕ
outcome_line o = ok_word o.is_met ++ (codes "- line " ++ (decimal o.expectation.line ++ (codes ": " ++ (o.expectation.call.now ++ 10 ∷ []))))

abbrev pub outcome_text : Outcome → List ℕ
outcome_text o = outcome_line o ++ (if o.is_met then [] else difference o)

-- how many there are
unfoldable pub plan : List Outcome → List ℕ
plan outcomes = codes "1.." ++ (decimal (length outcomes) ++ 10 ∷ [])

unfoldable pub tap_text : List Outcome → List ℕ
tap_text outcomes = plan outcomes ++ flat_map outcome_text outcomes
