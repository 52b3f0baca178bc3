-- The lines of a journal, with what a count looks at: of an answer the number that it tells, if it tells one. The rest of an answer does not
-- always show in its text: `ok 1 66` is the text of two.
-- Source: docs/FORMATS.md, "Journal text".
use Rattle.std.specs.Prelude.{ℕ, List, [], ◌∷◌, map, Option, None, Some}
use Rattle.board_model.specs.Journal.{tells, Line, call_line}
use Rattle.board_model.specs.Tallies.{number_told}
use Rattle.report_text.specs.TextLines.{lines_in}
use Rattle.report_text.specs.JournalRead.{told_texts, lines_of_texts}

abbrev pub counted_line : Line → Line
counted_line (call_line k a) = call_line k (tells (number_told a))
counted_line other = other

-- ---- in the bytes of a text: the lines of the journal at its front, and the first of them with the text behind it

abbrev pub lines_counted : List ℕ → List Line
lines_counted text = map counted_line (lines_of_texts (told_texts (lines_in text)))

abbrev pub counted_front : Option (Line × List ℕ) → List Line
counted_front None = []
counted_front (Some x) = x.0 ∷ lines_counted x.1
