use Rattle.std.proofs.Common.{rules, arith, refl}
use Rattle.endpoint_table.specs.declared.table.EndpointTable.TheInside.{Inside}
use Rattle.endpoint_table.proofs.TableLemmas.{kept-new, view-new}
use Rattle.endpoint_table.proofs.table.EndpointTable.new.Goals as goal

pub invariant_of-result : goal.invariant_of-result
invariant_of-result c = kept-new _ c.args.peers.now c.in-Ok.ensures.items c.in_ok-live.ensures c.in-Ok-with_capacity.ensures.items c.in_ok-debts.ensures (search rules) (search (rules, arith)) (search (rules, arith))

pub returns : goal.returns
returns c =
    let new : Inside = record { domain = c.args.domain; nodes = c.args.nodes; records = c.in-Ok.records; live = c.in_ok-live.live; events = c.in-Ok-with_capacity.events; debts = c.in_ok-debts.debts; given = 0 } in
    view-new new c.args.domain c.args.nodes c.args.peers.now c.in-Ok.ensures.items c.in-Ok-with_capacity.ensures.items c.in_ok-debts.ensures refl refl refl
