-- The lines of a text, each with the newline that ends it. Bytes after the last newline are a line too.
-- Source: docs/FORMATS.md, "Report": every line of a report ends with a newline.
use Rattle.std.specs.Prelude.{ℕ, ◌+◌, List, [], ◌∷◌, bytes_eq, ◌==◌, Option, None, Some, if◌then◌else◌}
use Rattle.board_model.specs.FileLines.{onto_first}

-- 10 is the newline
abbrev pub lines_in : List ℕ → List (List ℕ)
lines_in [] = []
lines_in (b ∷ bs) = if b == 10 then (10 ∷ []) ∷ lines_in bs else onto_first b (lines_in bs)

-- ---- places, counted from the first of some lines

-- a place, counted from so many lines before
abbrev pub moved : ℕ → Option ℕ → Option ℕ
moved n None = None
moved n (Some place) = Some (n + place)

abbrev pub or_else : Option ℕ → Option ℕ → Option ℕ
or_else None second = second
or_else (Some place) second = Some place

-- by how many these lines are the others, where they are not all
abbrev pub first_other : List (List ℕ) → List (List ℕ) → Option ℕ
first_other [] [] = None
first_other [] (m ∷ ms) = Some 0
first_other (l ∷ ls) [] = Some 0
first_other (l ∷ ls) (m ∷ ms) = if bytes_eq l m then moved 1 (first_other ls ms) else Some 0
