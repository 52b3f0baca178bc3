use Rattle.std.proofs.Common.{rules}
use Rattle.lane_end.proofs.CountLemmas.{remove-first}
use Rattle.lane_end.proofs.inbox.strike.Goals as goal

pub returns-clause-rest : goal.returns-clause-rest
returns-clause-rest c = search (rules, remove-first)
