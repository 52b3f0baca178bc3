use Rattle.std.proofs.Common.{map, take}
use Rattle.board_numbers.specs.ItemCounts.{EachWith, IsCountedBy}
use Rattle.board_runner.specs.EndedStations.{ended_station}
use Rattle.board_runner.proofs.ending.channel_totals.Given as goal

abbrev pub invariant-loop-station : goal.invariant-loop-station
invariant-loop-station l = EachWith (IsCountedBy (map ended_station l.stations) (take l.station-index (map ended_station l.stations))) (map ended_station l.stations) l.counts.items
