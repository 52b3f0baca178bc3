use Rattle.std.proofs.Common.{rules, arith}
use Rattle.endpoint_table.proofs.DebtLemmas.{written_step}
use Rattle.endpoint_table.proofs.debts.pay.Goals as goal

pub loop-debt-preserved : goal.loop-debt-preserved
loop-debt-preserved c = search (rules, arith, written_step)
