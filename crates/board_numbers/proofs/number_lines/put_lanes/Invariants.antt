use Rattle.std.proofs.Common.{take}
use Rattle.std.specs.List.{flat_map}
use Rattle.outer_io.specs.Puts.{Puts}
use Rattle.board_model.specs.Report.{places_text}
use Rattle.board_numbers.proofs.number_lines.put_lanes.Given as goal

abbrev pub invariant-loop-lane : goal.invariant-loop-lane
invariant-loop-lane g l = Puts g.K.Sink l.initial.out l.out (flat_map places_text (take l.lane-index l.lanes))
