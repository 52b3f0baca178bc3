-- The calls of a report that were refused: where they stand, and what is written of them.
-- Source: docs/FORMATS.md, "Journal text".
use Rattle.std.specs.Prelude.{◌≡◌, ℕ, true, List, [], ◌∷◌, ◌++◌, map, length, codes, decimal, ◌==◌, if◌then◌else◌, Option, Ok}
use Rattle.std.specs.Io.KnownBytes.{Appends}
use Rattle.std.specs.List.{flat_map}
use Rattle.report_text.specs.declared.outline.Outline.{Outline}
use Rattle.report_text.specs.declared.outline.Outline.TheVariants.{Call}
use Rattle.report_text.specs.Texts.{lines_told}
use Rattle.report_text.specs.TextPass.{told_by_text}
use Rattle.report_text.specs.TextRead.{told_of}
use Rattle.report_view.specs.declared.view.DomainView.{DomainView}
use Rattle.report_view.specs.declared.view.View.{View}
use Rattle.report_view.specs.Journals.{in_report, in_view, journal_of, journals_told}
use Rattle.view_cli.specs.declared.refused.RefusedCall.{RefusedCall}

-- a call, by its domain and by the number of its line in the script of that
pub record CallPlace : Type 0 where
  pub domain : ℕ
  pub number : ℕ

abbrev pub place : ℕ → ℕ → CallPlace
place domain number = record { domain = domain; number = number }

-- the call of a journal's line that says that it was refused
abbrev pub refused_by : ℕ → Outline → List CallPlace
refused_by domain (Call number true) = place domain number ∷ []
refused_by domain other = []

-- those of a domain's journal, line by line
abbrev pub refused_in : ℕ → List Outline → List CallPlace
refused_in domain lines = flat_map (refused_by domain) lines

abbrev pub refused_of : DomainView → List CallPlace
refused_of d = refused_in d.journal.domain (lines_told d.journal.text.now)

abbrev pub place_of : RefusedCall → CallPlace
place_of c = place c.domain c.number

-- what is written of a call: the number of its line in the report, its domain, its number there, the line and the word of the refusal
unfoldable pub refused_line : RefusedCall → List ℕ
refused_line c = decimal c.line.number ++ (32 ∷ (decimal c.domain ++ (32 ∷ (decimal c.number ++ (32 ∷ (c.line.text.now ++ (codes ": " ++ (c.word.now ++ 10 ∷ []))))))))

-- a list of the calls of these domains that were refused, one a line, and the status by whether there are any
pub record ListsRefused (domains : List DomainView) (status : ℕ) (text : List ℕ) : Type 0 where
  pub calls : List RefusedCall
  pub all : map place_of calls ≡ flat_map refused_of domains
  pub status_is : status ≡ (if length calls == 0 then 0 else 1)
  pub text_is : text ≡ flat_map refused_line calls

-- the report was read, its journals are those of the view, and the list of their calls that were refused was written
pub record ShowsRefused (report : List ℕ) (status : ℕ) (old new : Option (List ℕ)) : Type 0 where
  pub view : View
  pub told : told_by_text report ≡ Ok (told_of view.told)
  pub journals : map in_view (map journal_of view.domains.items) ≡ map in_report (journals_told (told_of view.told))
  pub text : List ℕ
  pub lists : ListsRefused view.domains.items status text
  pub written : Appends old new text
