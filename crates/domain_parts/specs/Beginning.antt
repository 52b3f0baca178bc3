-- The lines of a turn's visits.
-- Source: docs/FORMATS.md, "Journal text". A turn that is not idle begins with a line of its own.
use Rattle.std.specs.Prelude.{ℕ, Bool, not, ◌||◌, ◌==◌, List, [], ◌∷◌, ◌++◌, if◌then◌else◌}
use Rattle.board_model.specs.Journal.{Line, Visit, turn_line, visit_lines, is_idle}

-- a turn begins with the line of its first visit that is not idle
abbrev pub beginning : Bool → List Line
beginning begun = if begun then [] else turn_line ∷ []

-- the lines of a look that showed so many
abbrev pub look_lines : Bool → (ℕ → Line) → ℕ → List Line
look_lines begun line n = if n == 0 then [] else beginning begun ++ line n ∷ []

abbrev pub told_of : Bool → Visit → List Line
told_of begun v = if is_idle v then [] else beginning begun ++ visit_lines v

-- whether a turn has begun after a visit
abbrev pub has_begun : Bool → Visit → Bool
has_begun begun v = begun || not (is_idle v)

-- the lines of visits one after the other
abbrev pub told_of_all : Bool → List Visit → List Line
told_of_all begun [] = []
told_of_all begun (v ∷ vs) = told_of begun v ++ told_of_all (has_begun begun v) vs

abbrev pub has_begun_after : Bool → List Visit → Bool
has_begun_after begun [] = begun
has_begun_after begun (v ∷ vs) = has_begun_after (has_begun begun v) vs
