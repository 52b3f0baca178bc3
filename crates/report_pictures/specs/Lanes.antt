-- Which events move buffers of a lane, and the lines that a chart of lanes shows.
-- Source: docs/FORMATS.md, "Views of a report".
use Rattle.std.specs.Prelude.{ℕ, ◌==◌, ◌&&◌, zero, suc, List, [], ◌∷◌, ◌++◌, Bool, false, if◌then◌else◌}
use Rattle.std.specs.List.{flat_map}
use Rattle.event_order.specs.declared.causes.Lane.{Lane}
use Rattle.event_order.specs.declared.event.Event.{Event}
use Rattle.event_order.specs.declared.event.What.{What}
use Rattle.event_order.specs.declared.event.What.TheVariants.{Put, Take, Give, Back}

abbrev pub lane : ℕ → ℕ → Lane
lane sender receiver = record { sender = sender; receiver = receiver }

-- what a domain does moves buffers of the lane: its sender puts a frame or finds buffers that came back, its receiver takes a frame or gives buffers back
abbrev pub moves : Lane → ℕ → What → Bool
moves l domain (Put peer) = (domain == l.sender) && (peer == l.receiver)
moves l domain (Back peer n) = (domain == l.sender) && (peer == l.receiver)
moves l domain (Take peer) = (peer == l.sender) && (domain == l.receiver)
moves l domain (Give peer n) = (peer == l.sender) && (domain == l.receiver)
moves l domain other = false

abbrev pub is_on : Lane → Event → Bool
is_on l e = moves l e.domain e.what

abbrev pub line_on : Lane → Event → List ℕ
line_on l e = if is_on l e then e.line ∷ [] else []

-- the lines of the events that move buffers of a lane
abbrev pub lines_of_lane : Lane → List Event → List ℕ
lines_of_lane l es = flat_map (line_on l) es

-- those of the lanes from a sender to the receivers below a number, and of the lanes from the senders below a number
unfoldable pub lines_of_sender : List Event → ℕ → ℕ → List ℕ
lines_of_sender es sender zero = []
lines_of_sender es sender (suc n) = lines_of_sender es sender n ++ lines_of_lane (lane sender n) es

unfoldable pub lines_of_lanes : List Event → ℕ → List ℕ
lines_of_lanes es zero = []
lines_of_lanes es (suc n) = lines_of_lanes es n ++ lines_of_sender es n 8
