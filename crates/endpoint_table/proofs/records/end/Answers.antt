use Rattle.std.proofs.Common.{rules, arith}
use Rattle.endpoint_table.proofs.DebtLemmas.{written_step}
use Rattle.endpoint_table.proofs.records.end.Goals as goal

pub loop-record-preserved : goal.loop-record-preserved
loop-record-preserved c = search (rules, arith, written_step)
