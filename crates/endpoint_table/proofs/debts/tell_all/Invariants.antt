use Rattle.std.proofs.Common.{◌≡◌, ◌++◌, map, take, drop}
use Rattle.endpoint_table.specs.InTable.{one_more}
use Rattle.endpoint_table.proofs.debts.tell_all.Given as goal

abbrev pub invariant-loop-debt : goal.invariant-loop-debt
invariant-loop-debt l = l.debts ≡ map one_more (take l.debt-index l.fn.debts) ++ drop l.debt-index l.fn.debts
