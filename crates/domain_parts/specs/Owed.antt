-- What is owed to a linked domain, and the lines of what is put.
-- Source: docs/PROFILE.md, "A turn" and "Names".
use Rattle.std.specs.Prelude.{ℕ, Bool, List, [], ◌∷◌, ◌++◌, map, Option, None, Some, if◌then◌else◌}
use Rattle.endpoint_table.specs.declared.announced.Announced.{Announced}
use Rattle.endpoint_table.specs.Table.{Owing}
use Rattle.board_model.specs.Journal.{Line, put_line}
use Rattle.domain_parts.specs.Beginning.{beginning}

-- the announcements that are owed to it
abbrev pub owed_by : Option Owing → List Announced
owed_by None = []
owed_by (Some o) = o.owed

-- the lines of these frames; a turn begins with the first
abbrev pub put_lines : Bool → ℕ → List (List ℕ) → List Line
put_lines begun peer [] = []
put_lines begun peer (f ∷ fs) = beginning begun ++ map (put_line peer) (f ∷ fs)

-- the room that an entry needs, with the line of a turn that begins with it
abbrev pub room_for : Bool → ℕ
room_for begun = if begun then 1 else 2
