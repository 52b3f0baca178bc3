-- Texts of whole lines.
-- Source: docs/FORMATS.md, "Report": every line of a report ends with a newline.
use Rattle.std.specs.Prelude.{◌≡◌, ℕ, List, ◌++◌}
use Rattle.report_text.specs.TextLines.{lines_in}

-- the text is these lines, and what stands behind it begins a line
abbrev pub AreWholeLines : List ℕ → List (List ℕ) → Type 0
AreWholeLines text lines = (behind : List ℕ) → lines_in (text ++ behind) ≡ lines ++ lines_in behind
