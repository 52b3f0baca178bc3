use Rattle.std.proofs.Common.{◌≡◌, map}
use Rattle.std.specs.List.{AllByRecursion}
use Rattle.board_runner.specs.Ended.{HasRings, WiresEnd, wires_left}
use Rattle.board_runner.specs.Outcome.{lines_in}
use Rattle.board_runner.proofs.ended.end_stations.Given as goal

abbrev pub invariant-loop-station : goal.invariant-loop-station
invariant-loop-station l = record {
  told : lines_in l.journals ≡ map (λ st. st.journal.lines) l.yielded;
  ended : WiresEnd (wires_left l.yielded) l.links.items;
  over : AllByRecursion HasRings l.station-iterator.rest.items;
}
