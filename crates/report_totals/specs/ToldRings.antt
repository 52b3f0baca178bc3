-- What the text of a report of a run on threads tells of its rings.
-- Source: docs/FORMATS.md, "Report" and "How a report is checked".
use Rattle.std.specs.Prelude.{ℕ, List, map, Option}
use Rattle.board_model.specs.Scenario.{rising}
use Rattle.report_text.specs.JournalRead.{JournalText, journals_at}
use Rattle.report_text.specs.LinkPass.{journal_told}
use Rattle.report_text.specs.ScenarioPart.{Told}
use Rattle.report_text.specs.RingPass.{ring_texts, wrong_back_among}

abbrev pub texts_of : Told → List JournalText
texts_of t = journals_at (rising t.scenario) t.behind

-- the first back line that does not fit
abbrev pub wrong_back_of : Told → Option ℕ
wrong_back_of t = wrong_back_among t.scenario (texts_of t) (texts_of t)

-- the lines of rings that are due
abbrev pub ring_texts_of : Told → List (List ℕ)
ring_texts_of t = ring_texts t.scenario (map (journal_told t.scenario) (texts_of t))
