-- Links stay between the same two domains, and their ends stay those of one ring each, whatever moves one of the domains makes.
use Rattle.std.proofs.Common.{ℕ, List}
use Rattle.lane_end.specs.AnySender.{AnySends, AnySends-none}
use Rattle.lane_end.specs.AnyReceiver.{AnyReceives, AnyReceives-none}
use Rattle.lane_end.specs.AnyLane.{AreEndsOfOneRing}
use Rattle.lane_end.proofs.AnyLaneLemmas.{ends-stay}
use Rattle.domain_core.specs.LaneMoves.{LaneMove}
use Rattle.domain_core.specs.AllMoved.{AllMoved}
use Rattle.domain_core.specs.Carrying.{AreLinked}
use Rattle.domain_core.proofs.Going.{linked-moved, linked-other}
use Rattle.board_runner.specs.Near.{RunEnds}
use Rattle.board_runner.proofs.TurnEnds.{Moved}

abbrev AreOn : ℕ → ℕ → List RunEnds → List RunEnds → Type 0
AreOn one two ones twos = AreLinked AreEndsOfOneRing one two ones twos

pub linked-one : (one two : ℕ) (ones : List RunEnds) (moves : List (List LaneMove)) (ones' twos : List RunEnds) → AllMoved Moved ones moves ones' → AreOn one two ones twos → AreOn one two ones' twos
linked-one one two ones moves ones' twos moved h = linked-moved AnySends AnyReceives AreEndsOfOneRing ends-stay AnySends-none AnyReceives-none one two ones ones' twos moves moved h

pub linked-back : (one two : ℕ) (ones twos : List RunEnds) → AreOn one two ones twos → AreOn two one twos ones
linked-back one two ones twos h = linked-other AnySends AnyReceives AreEndsOfOneRing ends-stay AnySends-none AnyReceives-none one two ones twos h

pub linked-two : (one two : ℕ) (ones twos : List RunEnds) (moves : List (List LaneMove)) (twos' : List RunEnds) → AllMoved Moved twos moves twos' → AreOn one two ones twos → AreOn one two ones twos'
linked-two one two ones twos moves twos' moved h = linked-back two one twos' ones (linked-one two one twos moves twos' ones moved (linked-back one two ones twos h))
