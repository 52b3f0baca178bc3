-- What `read_text` returns.
-- Source: docs/FORMATS.md, "How a report is checked".
use Rattle.std.specs.Prelude.{ℕ, Result, Ok, Err}
use Rattle.report_text.specs.declared.fault.TextFault.{TextFault}
use Rattle.report_text.specs.declared.fault.TextFault.TheVariants as fault
use Rattle.report_text.specs.declared.pass.ReportText.{ReportText}
use Rattle.report_text.specs.Modes.{mode_of}
use Rattle.report_text.specs.TextLines.{lines_in}
use Rattle.report_text.specs.ScenarioPart.{rest, Told}

-- what a text tells
abbrev pub told_of : ReportText → Told
told_of t = record { mode = mode_of t.mode; scenario = t.scenario; behind = rest t.line (lines_in t.behind.now) }

abbrev pub text_seen : Result ReportText ℕ → Result Told ℕ
text_seen (Ok t) = Ok (told_of t)
text_seen (Err n) = Err n

-- a fact of the first wrong line, and none of want of memory
abbrev pub IfWrong : {X : Type 0} → Result X TextFault → (ℕ → Type 0) → Type 0
IfWrong (Ok x) P = Unit {0}
IfWrong (Err fault.NoMemory) P = Unit {0}
IfWrong (Err (fault.Wrong line)) P = P line
