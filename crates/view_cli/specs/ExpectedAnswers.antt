-- Whether the answers of a report are those that a scenario file expects, and what is written of it.
-- Source: docs/FORMATS.md, "Expected answers".
use Rattle.std.specs.Prelude.{◌≡◌, ℕ, List, map, Option, Ok, if◌then◌else◌}
use Rattle.std.specs.Io.KnownBytes.{Appends}
use Rattle.board_model.specs.declared.scenario.Scenario.{Scenario}
use Rattle.board_model.specs.Grammar.{canonical}
use Rattle.board_model.specs.Language.{told_by}
use Rattle.report_text.specs.TextPass.{told_by_text}
use Rattle.report_text.specs.TextRead.{told_of}
use Rattle.report_view.specs.declared.view.View.{View}
use Rattle.report_view.specs.Journals.{in_report, in_view, journal_of, journals_told}
use Rattle.view_expect.specs.declared.comparing.Outcome.{Outcome}
use Rattle.view_expect.specs.Answers.{answers_of}
use Rattle.view_expect.specs.Expected.{bare, expected_in}
use Rattle.view_expect.specs.Outcomes.{are_met, tap_text, verdict_of, verdict_on}

-- of each answer that the file expects, in order, it was found whether the journals have it; that was written, and the status says whether
-- they have all
pub record ShowsOutcomes (file : List ℕ) (view : View) (status : ℕ) (old new : Option (List ℕ)) : Type 0 where
  pub outcomes : List Outcome
  pub all : map verdict_of outcomes ≡ map (verdict_on (map answers_of view.domains.items)) (expected_in file)
  pub status_is : status ≡ (if are_met outcomes then 0 else 1)
  pub written : Appends old new (tap_text outcomes)

-- and the scenario of the report is that of the file
pub record ShowsAnswers (file : List ℕ) (view : View) (status : ℕ) (old new : Option (List ℕ)) : Type 0 where
  pub scenario : Scenario
  pub told : told_by (bare file) ≡ Ok scenario
  pub same : canonical scenario ≡ canonical view.told.scenario
  pub outcomes : ShowsOutcomes file view status old new

-- and the view is that of the report: it was read, and its journals are those of the view
pub record ShowsExpected (file report : List ℕ) (status : ℕ) (old new : Option (List ℕ)) : Type 0 where
  pub view : View
  pub told : told_by_text report ≡ Ok (told_of view.told)
  pub journals : map in_view (map journal_of view.domains.items) ≡ map in_report (journals_told (told_of view.told))
  pub answers : ShowsAnswers file view status old new
