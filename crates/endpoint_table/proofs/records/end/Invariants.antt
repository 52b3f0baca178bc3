use Rattle.std.proofs.Common.{◌≡◌, ◌++◌, map, take, drop}
use Rattle.endpoint_table.specs.Table.{ended}
use Rattle.endpoint_table.proofs.records.end.Given as goal

abbrev pub invariant-loop-record : goal.invariant-loop-record
invariant-loop-record l = l.records ≡ map (ended l.address) (take l.record-index l.fn.records) ++ drop l.record-index l.fn.records
