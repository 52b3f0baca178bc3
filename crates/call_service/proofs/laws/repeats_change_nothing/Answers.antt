use Rattle.std.proofs.Common.{[]}
use Rattle.call_service.proofs.Repeats.{one_left_out, all_left_out}
use Rattle.call_service.proofs.laws.repeats_change_nothing.Goals as goal

pub returns-clause-one : goal.returns-clause-one
returns-clause-one c before after r known = one_left_out before after r known

pub returns-clause-all : goal.returns-clause-all
returns-clause-all c rs = all_left_out [] rs
