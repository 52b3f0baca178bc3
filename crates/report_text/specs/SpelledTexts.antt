-- The lines of a journal that were read from the front of a text, with the digits of their bytes as they stand there.
-- Source: docs/FORMATS.md, "Journal text".
use Rattle.std.specs.Prelude.{◌≡◌, ℕ, ◌+◌, ◌<◌, ◌≤◌, List, [], ◌∷◌, length, drop, Option, None, Some}
use Rattle.mc_journal.specs.declared.entry.Entry.{Entry}
use Rattle.mc_journal.specs.Entry.{line_of_entry}
use Rattle.mc_journal.specs.LineForms.{line_in}
use Rattle.mc_journal.specs.Readers.{cut_at}
use Rattle.mc_journal.specs.Spelled.{AreDigits, frame_digits, spelled_line}
use Rattle.report_text.specs.JournalRead.{line_before}
use Rattle.report_text.specs.declared.spelled_text.SpelledLine.{SpelledLine}
use Rattle.report_text.specs.declared.spelled_text.SpelledText.{SpelledText}

-- the first line of a text is that of this entry, with the bytes that its digits spell, and this stands behind it
pub record IsFirstLine (text : List ℕ) (e : Entry) (behind : List ℕ) : Type 0 where
  pub front : List ℕ
  pub cut : cut_at 10 text ≡ Some (front, behind)
  pub line : line_in front ≡ Some (spelled_line (line_of_entry e))
  pub digits : AreDigits (frame_digits e)
  pub few : length (frame_digits e) ≤ length front
  pub shorter : length front + length behind < length text
  pub rest : behind ≡ drop (length front + 1) text

-- the first line of a text, or none where the text begins with no line of a journal
abbrev pub FoundLine : List ℕ → Option (Entry × List ℕ) → Type 0
FoundLine text None = line_before (cut_at 10 text) ≡ None
FoundLine text (Some x) = IsFirstLine text x.0 x.1

-- these are the lines of the journal at the front of a text
abbrev pub AreSpelled : List ℕ → List SpelledLine → Type 0
AreSpelled text [] = line_before (cut_at 10 text) ≡ None
AreSpelled text (l ∷ ls) = IsFirstLine text l.entry (drop l.size text) × (l.size ≤ length text) × AreSpelled (drop l.size text) ls

abbrev pub IsSpelledText : SpelledText → Type 0
IsSpelledText t = AreSpelled t.text.now t.lines.now
