-- Room for the lines of journals.
-- Source: docs/FORMATS.md, "Journal text".
use Rattle.std.specs.Prelude.{ℕ, ◌≤◌}
use Rattle.report_text.specs.Texts.{longest_line}
use Rattle.report_view.specs.declared.view.DomainView.{DomainView}

-- no line of the domain's journal has more bytes
abbrev pub FitsIn : ℕ → DomainView → Type 0
FitsIn room d = longest_line d.journal.text.now ≤ room
