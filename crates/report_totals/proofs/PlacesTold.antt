-- A journal has as many places of buffers given back as it gives back buffers.
use Rattle.std.proofs.Common.{◌≡◌, ℕ, [], length, refl, sym, ap, ◌∙◌}
use Rattle.board_model.specs.declared.scenario.Scenario.{Scenario}
use Rattle.board_model.specs.Scenario.{script}
use Rattle.board_model.specs.LinkedBoard.{IsLinkedBoard}
use Rattle.board_model.specs.Run.{start, IsDomainRun}
use Rattle.board_model.specs.Traffic.{given}
use Rattle.board_model.specs.JournalDeeds.{opened}
use Rattle.board_model.specs.Given.{places_given}
use Rattle.board_model.proofs.DeedGiven.{given_are}
use Rattle.report_text.specs.JournalRead.{JournalText}
use Rattle.report_text.specs.LinkPass.{journal_told}
use Rattle.report_text.specs.RightRuns.{journal_due}
use Rattle.report_text.proofs.BoardsTold.{given-answers}
use Rattle.report_text.proofs.PlacesAnswered.{places-answers}

module _ (s : Scenario) (board : IsLinkedBoard s) (j : JournalText) (run : IsDomainRun s j.line (journal_due s j).entries) (p : ℕ) where
  -- as many places as buffers that it gives back
  pub places-many : length (places_given s (journal_told s j) p) ≡ given (script s j.line.domain) (start s j.line) p (journal_told s j).entries
  places-many =
      ap length (sym (places-answers (script s j.line.domain) p [] [] (start s j.line) (opened s (journal_told s j)) (journal_told s j).entries (λ q. refl)))
      ∙ given_are s (journal_due s j) board run p
      ∙ given-answers (script s j.line.domain) p (start s j.line) (journal_told s j).entries
