use Rattle.std.proofs.Common.{◌≡◌, List, ◌++◌, take}
use Rattle.std.specs.List.{flat_map}
use Rattle.board_model.specs.declared.scenario.Scenario.{Scenario}
use Rattle.ring_numbers.specs.RingTexts.{ring_text}
use Rattle.report_text.specs.JournalRead.{JournalText}
use Rattle.report_totals.specs.ReadJournals.{Reads, image_told}
use Rattle.report_totals.proofs.rings.lines.text_of_rings.Given as goal

abbrev pub invariant-loop-link : goal.invariant-loop-link
invariant-loop-link l = (s : Scenario) (js : List JournalText) → Reads s js l.read → l.sink.text.items ≡ flat_map (λ k. ring_text k 0 (image_told s js k 0) ++ ring_text k 1 (image_told s js k 1)) (take l.link-index l.links)
