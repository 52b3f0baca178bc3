-- The texts of lines that are compared with the lines that are due, one by one.
-- Source: docs/FORMATS.md, "Report": the first line that differs is wrong.
use Rattle.std.specs.Prelude.{◌≡◌, ℕ, ◌+◌, Bool, true, false, List, [], ◌∷◌, ◌++◌, length, map, ◌==◌, Option, None, Some, if◌then◌else◌}
use Rattle.board_model.specs.Journal.{Line}
use Rattle.board_model.specs.Report.{line_text}
use Rattle.report_text.specs.TextLines.{first_other, moved}

-- the texts that are left, and how many were compared
pub record LinesLeft : Type 0 where
  pub texts : List (List ℕ)
  pub place : ℕ

-- these lines were due, and each was the next
pub record AreMet (old new : LinesLeft) (due : List Line) : Type 0 where
  pub texts : old.texts ≡ map line_text due ++ new.texts
  pub place : new.place ≡ old.place + length due

-- one of these lines was due, and another stands at the place where that would. It stays the first that differs, whatever is due behind
pub record IsMissed (old new : LinesLeft) (due : List Line) : Type 0 where
  pub place : (more : List Line) → moved old.place (first_other old.texts (map line_text (due ++ more))) ≡ Some new.place

abbrev pub Meets : LinesLeft → LinesLeft → List Line → Bool → Type 0
Meets old new due true = AreMet old new due
Meets old new due false = IsMissed old new due

-- where all that are due were met, the first line behind them is wrong, if there is one
abbrev pub place_at_end : LinesLeft → Option ℕ
place_at_end l = if length l.texts == 0 then None else Some l.place

-- the first line that is not the one due, after all that are due or the first that differs
abbrev pub place_after : LinesLeft → Bool → Option ℕ
place_after l true = place_at_end l
place_after l false = Some l.place

-- ---- one line

-- another text is the first than this one
abbrev pub IsOtherText : List ℕ → List (List ℕ) → Type 0
IsOtherText text texts = (more : List (List ℕ)) → first_other texts (text ∷ more) ≡ Some 0

-- and than this line with its newline
abbrev pub IsOtherLine : List ℕ → List (List ℕ) → Type 0
IsOtherLine line texts = IsOtherText (line ++ 10 ∷ []) texts
