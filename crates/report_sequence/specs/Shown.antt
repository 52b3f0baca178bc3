-- Which events a sequence diagram shows, and the lines of the report that it names.
-- Source: docs/FORMATS.md, "Views of a report".
use Rattle.std.specs.Prelude.{ℕ, ◌-◌, List, [], ◌∷◌, Bool, true, false, if◌then◌else◌, drop, take}
use Rattle.std.specs.List.{flat_map}
use Rattle.event_order.specs.declared.event.Event.{Event}
use Rattle.event_order.specs.declared.event.What.{What}
use Rattle.event_order.specs.declared.event.What.TheVariants.{Give, Back}

-- all but buffers that are given back or come back
abbrev pub is_drawn : What → Bool
is_drawn (Give peer n) = false
is_drawn (Back peer n) = false
is_drawn other = true

abbrev pub line_drawn : Event → List ℕ
line_drawn e = if is_drawn e.what then e.line ∷ [] else []

-- the lines of the events that are drawn, of those from one place in their order to before another
abbrev pub lines_drawn : List Event → List ℕ
lines_drawn es = flat_map line_drawn es

abbrev pub part_of : ℕ → ℕ → List Event → List Event
part_of from to es = take (to - from) (drop from es)
