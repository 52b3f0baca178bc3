use Rattle.std.proofs.Common.{rules, not}
use Rattle.std.specs.Prelude.{◌==◌}
use Rattle.std.proofs.lemmas.Fn.{filter_same}
use Rattle.endpoint_table.proofs.records.free.Goals as goal

pub returns-clause-items : goal.returns-clause-items
returns-clause-items c = filter_same _ (λ r. not (r.address == c.args.address)) _ (λ x b f called. search rules) _ _ c.retain.ensures.filtered
