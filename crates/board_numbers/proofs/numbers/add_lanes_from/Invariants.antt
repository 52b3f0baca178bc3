use Rattle.std.proofs.Common.{take, get_or}
use Rattle.board_numbers.specs.Lanes.{lanes_from}
use Rattle.board_numbers.specs.Tallied.{AddPlaces}
use Rattle.board_numbers.proofs.numbers.add_lanes_from.Given as goal

abbrev pub invariant-loop-to : goal.invariant-loop-to
invariant-loop-to l = AddPlaces l.scenario l.tallies (lanes_from l.scenario (get_or l.numbers l.from 0) (take l.to l.numbers)) l.initial.places l.places
