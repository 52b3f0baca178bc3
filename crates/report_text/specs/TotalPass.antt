-- The fourth pass over a report: the first line of its numbers that is not the one that is due. If the board ran on threads, the back lines come
-- first, which stand before all numbers.
-- Source: docs/FORMATS.md, "Report" and "How a report is checked".
use Rattle.std.specs.Prelude.{ℕ, List, [], ◌∷◌, ◌++◌, map, Option, None}
use Rattle.board_model.specs.declared.scenario.Scenario.{Scenario}
use Rattle.board_model.specs.Scenario.{lanes}
use Rattle.board_model.specs.Board.{DomainJournal}
use Rattle.board_model.specs.Totals.{channel_totals, totals}
use Rattle.board_model.specs.Places.{places_of}
use Rattle.board_model.specs.Report.{Mode, serial, threads, channel_text, messages_text, places_text, ending}
use Rattle.report_text.specs.TextLines.{first_other, moved, or_else}
use Rattle.report_text.specs.JournalRead.{JournalText}
use Rattle.report_text.specs.LinkPass.{journal_told}
use Rattle.report_text.specs.RingPass.{ring_texts, wrong_back_among}
use Rattle.report_text.specs.ScenarioPart.{Rest}

-- the lines of channels, of the messages, of the lanes, these of rings, and the last
abbrev pub number_texts : Scenario → List DomainJournal → List (List ℕ) → List (List ℕ)
number_texts s js rings = map channel_text (channel_totals s js) ++ (messages_text (totals s js) ∷ (map places_text (map (places_of s js) (lanes s)) ++ (rings ++ ending ∷ [])))

-- the lines of rings that are due. A serial run has no rings
abbrev pub rings_due : Mode → Scenario → List DomainJournal → List (List ℕ)
rings_due serial s js = []
rings_due threads s js = ring_texts s js

-- by the lines behind the journals
abbrev pub wrong_number : Mode → Scenario → List DomainJournal → Rest → Option ℕ
wrong_number mode s js r = moved r.number (first_other r.lines (number_texts s js (rings_due mode s js)))

-- ---- the back lines. A serial run has no rings that they could not fit

abbrev pub wrong_ring_back : Mode → Scenario → List JournalText → Option ℕ
wrong_ring_back serial s js = None
wrong_ring_back threads s js = wrong_back_among s js js

-- ---- by the texts of the journals, and the lines behind them

abbrev pub wrong_total : Mode → Scenario → List JournalText → Rest → Option ℕ
wrong_total mode s js numbers = or_else (wrong_ring_back mode s js) (wrong_number mode s (map (journal_told s) js) numbers)
