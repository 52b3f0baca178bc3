use Rattle.std.proofs.Common.{◌≡◌, map, take}
use Rattle.report_replay.specs.Replayed.{neighbour_of}
use Rattle.report_text.specs.Texts.{neighbours_of}
use Rattle.report_check.proofs.steps.lanes.Given as goal

abbrev pub invariant-loop-neighbour : goal.invariant-loop-neighbour
invariant-loop-neighbour l = map neighbour_of l.lanes.items ≡ neighbours_of (take l.neighbour-index l.found)
