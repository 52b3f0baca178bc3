use Rattle.std.proofs.Common.{◌≡◌, map, take}
use Rattle.endpoint_table.specs.InTable.{debt_of_none}
use Rattle.endpoint_table.proofs.debts.none_owed.Given as goal

abbrev pub invariant-loop-peer : goal.invariant-loop-peer
invariant-loop-peer l = l.debts.items ≡ map debt_of_none (take l.peer-index l.peers)
