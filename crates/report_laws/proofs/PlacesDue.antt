-- The buffers that a domain gives back are those that its journal gives back with the answers that are due.
use Rattle.std.proofs.Common.{◌≡◌, ℕ, List, [], map, Option, Some, None, option_map, find, refl, sym, ap, ◌∙◌}
use Rattle.std.specs.Prelude.{◌==◌}
use Rattle.board_model.specs.declared.scenario.Scenario.{Scenario}
use Rattle.board_model.specs.Scenario.{script}
use Rattle.board_model.specs.Board.{DomainJournal}
use Rattle.board_model.specs.Run.{start}
use Rattle.board_model.specs.JournalDeeds.{opened}
use Rattle.ring_numbers.specs.BoardRings.{places_by, places_of}
use Rattle.report_text.specs.JournalRead.{JournalText}
use Rattle.report_text.specs.LinkPass.{journal_told}
use Rattle.report_text.specs.RightRuns.{journal_due}
use Rattle.report_text.specs.RingPass.{given_to}
use Rattle.report_text.proofs.BoardsTold.{found-mapped}
use Rattle.report_text.proofs.PlacesAnswered.{places-answers}

-- the places that are told are those of the journals with the answers that are due
pub given-due : (s : Scenario) (ts : List JournalText) (d p : ℕ) → places_of s (map (journal_due s) ts) p d ≡ given_to s ts d p
given-due s ts d p =
    ap (λ (o : Option DomainJournal). places_by s o d) (found-mapped (journal_due s) (λ t. refl) p ts)
    ∙ go (find (λ t. t.line.domain == p) ts)
    ∙ sym (ap (λ (o : Option DomainJournal). places_by s o d) (found-mapped (journal_told s) (λ t. refl) p ts))
  where
    go : (o : Option JournalText) → places_by s (option_map (journal_due s) o) d ≡ places_by s (option_map (journal_told s) o) d
    go None = refl
    go (Some t) = places-answers (script s t.line.domain) d [] [] (start s t.line) (opened s (journal_told s t)) (journal_told s t).entries (λ q. refl)
