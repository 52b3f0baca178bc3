-- The deeds of a turn, in which each frame that is taken is named by its buffer's number.
-- Source: docs/PROFILE.md, "A turn". No entry tells these numbers, so they are given beside each visit.
use Rattle.std.specs.Prelude.{ℕ, List, [], ◌∷◌, ◌++◌, slice_get, Option}
use Rattle.board_model.specs.Deeds.{Deed}
use Rattle.board_model.specs.Journal.{Visit}
use Rattle.board_model.specs.Turn.{visit_deeds}

-- the number of the buffer of the frame at a place among those taken
abbrev pub number_in : List ℕ → ℕ → Option ℕ
number_in numbers k = slice_get numbers k

abbrev pub numbered_deeds : Visit → List ℕ → List Deed
numbered_deeds v numbers = visit_deeds (number_in numbers) v

-- of the visits of a turn, one after the other
abbrev pub turn_deeds : List Visit → List (List ℕ) → List Deed
turn_deeds [] numbers = []
turn_deeds (v ∷ vs) [] = []
turn_deeds (v ∷ vs) (ns ∷ numbers) = numbered_deeds v ns ++ turn_deeds vs numbers
