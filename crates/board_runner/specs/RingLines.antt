-- The ring lines of a report, and the report of what a run left: of a run on threads with the image of each finished ring.
-- Source: docs/FORMATS.md, "Report" and "Images of rings". A serial run closes none of its rings, so its report has no ring lines.
use Rattle.std.specs.Prelude.{◌≡◌, ℕ, List, [], ◌∷◌}
use Rattle.split_ring.specs.Finished.{FinishedRing}
use Rattle.board_model.specs.declared.scenario.LinkLine.{LinkLine}
use Rattle.board_model.specs.declared.scenario.Scenario.{Scenario}
use Rattle.board_model.specs.Board.{DomainJournal}
use Rattle.board_model.specs.Report.{Mode, serial, threads, report_of, report}
use Rattle.ring_numbers.specs.RingTexts.{ring_text}
use Rattle.ring_trace.specs.WordImage.{word_image}
use Rattle.board_runner.specs.declared.outcome.Outcome.{Outcome}
use Rattle.board_runner.specs.Outcome.{lines_in}

abbrev pub image_of_ring : FinishedRing → List ℕ
image_of_ring ring = word_image ring.size ring.words

-- the lines of the rings of all links in their order: of each queue 0 and then queue 1
abbrev pub ring_lines : List LinkLine → List FinishedRing → List (List ℕ)
ring_lines (l ∷ ls) (zero ∷ (one ∷ rings)) = ring_text l 0 (image_of_ring zero) ∷ ring_text l 1 (image_of_ring one) ∷ ring_lines ls rings
ring_lines ls rings = []

-- those of a report in this mode
abbrev pub ring_lines_in : Mode → List LinkLine → List FinishedRing → List (List ℕ)
ring_lines_in serial links rings = []
ring_lines_in threads links rings = ring_lines links rings

-- the rings are those of the links: two of each in their order, queue 0 and then queue 1
abbrev pub AreOfLinks : List LinkLine → List FinishedRing → Type 0
AreOfLinks [] [] = Unit {0}
AreOfLinks (l ∷ ls) (zero ∷ (one ∷ rings)) = (zero.queue ≡ 0) × (one.queue ≡ 1) × AreOfLinks ls rings
AreOfLinks ls rings = ⊥

-- the rings are there that a report in this mode shows
abbrev pub HasRingsFor : Mode → List LinkLine → List FinishedRing → Type 0
HasRingsFor serial links rings = Unit {0}
HasRingsFor threads links rings = AreOfLinks links rings

-- the report of a scenario with all that an outcome tells
abbrev pub outcome_report : Mode → Scenario → Outcome → List ℕ
outcome_report mode s o = report_of mode s (lines_in o.journals) o.channels o.messages o.places (ring_lines_in mode s.links o.rings)

-- the report of a run of a scenario that left these journals, their numbers, and these rings
abbrev pub report_left : Mode → Scenario → List DomainJournal → List FinishedRing → List ℕ
report_left mode s js rings = report mode s js (ring_lines_in mode s.links rings)
