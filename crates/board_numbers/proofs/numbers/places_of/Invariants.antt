use Rattle.std.proofs.Common.{[], take, flat_map}
use Rattle.board_numbers.specs.Lanes.{lanes_from, numbers_of}
use Rattle.board_numbers.specs.Tallied.{AddPlaces}
use Rattle.board_numbers.proofs.numbers.places_of.Given as goal

abbrev pub invariant-loop-from : goal.invariant-loop-from
invariant-loop-from l = AddPlaces l.scenario l.tallies (flat_map (λ a. lanes_from l.scenario a (numbers_of l.scenario)) (take l.from l.numbers.items)) [] l.places
