-- The lines of a report's journals that answer calls, and whether one of them is what is expected.
-- Source: docs/FORMATS.md, "Expected answers" and "Journal text".
use Rattle.std.specs.Prelude.{ℕ, ◌-◌, ◌==◌, Bool, false, List, [], ◌∷◌, ◌++◌, map, find, codes, decimal, bytes_eq, slice_get, Option, None, Some, if◌then◌else◌}
use Rattle.std.specs.Borrow.{Bor}
use Rattle.std.specs.List.{flat_map}
use Rattle.mc_journal.specs.Readers.{cut_at}
use Rattle.report_text.specs.JournalRead.{told_texts}
use Rattle.report_text.specs.TextLines.{lines_in}
use Rattle.report_view.specs.declared.view.DomainView.{DomainView}
use Rattle.report_view.specs.Journals.{DomainTexts}
use Rattle.view_expect.specs.declared.answers.Answers.{Answers}
use Rattle.view_expect.specs.Expected.{Expected}

abbrev pub is_call_word : Option (List ℕ × List ℕ) → Bool
is_call_word None = false
is_call_word (Some x) = bytes_eq (codes "call") x.0

-- the line begins with the word, and a blank
abbrev pub is_call : List ℕ → Bool
is_call line = is_call_word (cut_at 32 line)

abbrev pub when_call : List ℕ → List (List ℕ)
when_call line = if is_call line then line ∷ [] else []

-- the lines that answer calls among those of a journal
abbrev pub calls_in : List (List ℕ) → List (List ℕ)
calls_in texts = flat_map when_call texts

-- ---- by domain

abbrev pub call_texts : List (Bor (List ℕ)) → List (List ℕ)
call_texts lines = map (λ l. l.now) lines

abbrev pub texts : ℕ → List (List ℕ) → DomainTexts
texts d lines = record { domain = d; texts = lines }

abbrev pub told_answers : Answers → DomainTexts
told_answers a = texts a.domain (call_texts a.lines.items)

-- those of a domain's journal
abbrev pub answers_of : DomainView → DomainTexts
answers_of d = texts d.journal.domain (calls_in (told_texts (lines_in d.journal.text.now)))

-- ---- what is expected

-- the line of a journal that answers a call so
abbrev pub answer_line : ℕ → List ℕ → List ℕ
answer_line number answer = codes "call " ++ (decimal number ++ (32 ∷ (answer ++ 10 ∷ [])))

abbrev pub lines_of : Option DomainTexts → List (List ℕ)
lines_of None = []
lines_of (Some d) = d.texts

-- the answers of a domain
abbrev pub of_domain : List DomainTexts → ℕ → List (List ℕ)
of_domain all d = lines_of (find (λ a. a.domain == d) all)

abbrev pub is_line : List ℕ → Option (List ℕ) → Bool
is_line due None = false
is_line due (Some line) = bytes_eq line due

-- the call of this number is the one that the journal answers as often, and its line is the one that is expected
abbrev pub is_met : List DomainTexts → Expected → Bool
is_met all e = is_line (answer_line e.number e.answer) (slice_get (of_domain all e.domain) (e.number - 1))
