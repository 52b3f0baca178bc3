-- What the readers find in the bytes of a text: the journal's lines at its front, and what follows them. Contracts of public calls speak of
-- the lines of a text instead.
use Rattle.std.specs.Prelude.{ℕ, ◌+◌, ◌<◌, ◌≤◌, max, List, [], ◌∷◌, length, map, Option, None, Some, Result, Ok, Err}
use Rattle.report_text.specs.declared.lines.Unread.{Unread}
use Rattle.report_text.specs.declared.outline.Outline.{Outline}
use Rattle.board_model.specs.declared.scenario.Scenario.{Scenario}
use Rattle.board_model.specs.Scenario.{Neighbour, neighbour}
use Rattle.board_model.specs.Report.{Mode as RunMode}
use Rattle.report_text.specs.declared.mode.Mode.{Mode}
use Rattle.report_text.specs.declared.pieces.Piece.{Piece}
use Rattle.report_text.specs.declared.pieces.Piece.TheVariants as piece
use Rattle.report_text.specs.declared.board.Numbered.{Numbered}
use Rattle.report_text.specs.Modes.{mode_of}
use Rattle.report_text.specs.ReportLines.{FormWord, word, number, bytes}
use Rattle.report_text.specs.ScenarioPart.{Rest, rest, Told}
use Rattle.report_text.specs.TextLines.{lines_in}
use Rattle.report_text.specs.TextPass.{Headed}
use Rattle.report_text.specs.Outlines.{told_lines, behind_told}

abbrev pub lines_told : List ℕ → List Outline
lines_told text = told_lines (lines_in text)

abbrev pub lines_behind : List ℕ → List (List ℕ)
lines_behind text = behind_told (lines_in text)

-- a first line, and the lines in the text behind it
abbrev pub told_front : Option (Outline × List ℕ) → List Outline
told_front None = []
told_front (Some x) = x.0 ∷ lines_told x.1

abbrev pub longest : List (List ℕ) → ℕ
longest [] = 0
longest (l ∷ ls) = max (length l) (longest ls)

abbrev pub longest_line : List ℕ → ℕ
longest_line text = longest (lines_in text)

-- what is left, by its lines
abbrev pub rest_of : Unread → Rest
rest_of u = rest u.number (lines_in u.text.now)

abbrev pub seen : Result Unread ℕ → Result Rest ℕ
seen (Ok u) = Ok (rest_of u)
seen (Err n) = Err n

-- the last of these lines, or what stands before them
abbrev pub last_of : Option Outline → List Outline → Option Outline
last_of last [] = last
last_of last (l ∷ ls) = last_of (Some l) ls

-- a form's words
abbrev pub form_word : Piece → FormWord
form_word (piece.Word w) = word w.now
form_word (piece.Number least most) = number least most
form_word piece.Bytes = bytes

abbrev pub form_of : List Piece → List FormWord
form_of pieces = map form_word pieces

-- a neighbour
abbrev pub neighbour_of : Numbered → Neighbour
neighbour_of n = neighbour n.number n.size

abbrev pub neighbours_of : List Numbered → List Neighbour
neighbours_of ns = map neighbour_of ns

-- the second is behind the first, or where it is
pub record IsBehind (u v : Unread) : Type 0 where
  pub few : v.number + length v.text.now ≤ u.number + length u.text.now
  pub shorter : length v.text.now ≤ length u.text.now
  pub fits : longest_line v.text.now ≤ longest_line u.text.now

-- what is read lies behind, by a line at least
pub record IsPast (u v : Unread) : Type 0 where
  pub behind : IsBehind u v
  pub past : length v.text.now < length u.text.now

abbrev pub IsRead : Unread → Result Unread ℕ → Type 0
IsRead u (Ok v) = IsPast u v
IsRead u (Err n) = Unit {0}

-- what is left lies behind, if it has not moved
abbrev pub IsReached : Unread → Result Unread ℕ → Type 0
IsReached u (Ok v) = IsBehind u v
IsReached u (Err n) = Unit {0}

-- a mode that was read, with what is left
abbrev pub heading_seen : Result (Mode × Unread) ℕ → Result Headed ℕ
heading_seen (Ok x) = Ok (record { mode = mode_of x.0; behind = rest_of x.1 })
heading_seen (Err n) = Err n

-- a scenario that was read behind the heading of this mode, with what is left
abbrev pub told_seen : RunMode → Result (Scenario × Unread) ℕ → Result Told ℕ
told_seen mode (Ok x) = Ok (record { mode = mode; scenario = x.0; behind = rest_of x.1 })
told_seen mode (Err n) = Err n
