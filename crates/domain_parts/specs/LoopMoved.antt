-- The moves of both sides of a lane to oneself, in their order.
-- Source: docs/PROFILE.md, "Lanes".
use Rattle.std.specs.Prelude.{◌≡◌, List, ◌++◌, refl}
use Rattle.lane_end.specs.Moves.{Lead}
use Rattle.lane_end.specs.MoveLaws.{Lead-append, Lead-keeps}
use Rattle.lane_end.specs.Loop.{Loop, MayLoopSend, loop_after_send, MayLoopReceive, loop_after_receive}
use Rattle.domain_parts.specs.LaneMoves.{LaneMove, sender, receiver}

abbrev pub MayLoop : Loop → LaneMove → Type 0
MayLoop l (sender m) = MayLoopSend l m
MayLoop l (receiver m) = MayLoopReceive l m

abbrev pub loop_after : Loop → LaneMove → Loop
loop_after l (sender m) = loop_after_send l m
loop_after l (receiver m) = loop_after_receive l m

abbrev pub LoopMoved : Loop → List LaneMove → Loop → Type 0
LoopMoved old moves new = Lead MayLoop loop_after old moves new

pub LoopMoved-both : (a b c : Loop) (xs ys : List LaneMove) → LoopMoved a xs b → LoopMoved b ys c → LoopMoved a (xs ++ ys) c
LoopMoved-both a b c xs ys first then = Lead-append MayLoop loop_after a b c xs ys first then

size-after : (l : Loop) (m : LaneMove) → MayLoop l m → (loop_after l m).size ≡ l.size
size-after l (sender m) may = refl
size-after l (receiver m) may = refl

pub LoopMoved-size : (a b : Loop) (xs : List LaneMove) → LoopMoved a xs b → b.size ≡ a.size
LoopMoved-size a b xs moved = Lead-keeps MayLoop loop_after (λ l. l.size) size-after a b xs moved
