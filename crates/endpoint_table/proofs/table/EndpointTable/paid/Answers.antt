use Rattle.std.proofs.Common.{rules, ap, refl, ◌∙◌}
use Rattle.std.specs.Vec.{with_items}
use Rattle.endpoint_table.specs.declared.table.EndpointTable.TheInside.{Inside}
use Rattle.endpoint_table.specs.Table.{Table, paid_to}
use Rattle.endpoint_table.specs.InTable.{one_less}
use Rattle.endpoint_table.proofs.TableLemmas.{kept-told, view-told, written-items}
use Rattle.endpoint_table.proofs.table.EndpointTable.paid.Goals as goal

pub invariant_of-self : goal.invariant_of-self
invariant_of-self c =
    let debts = written-items c.self.inside.debts c.pay.new.debts (one_less c.args.peer) (search rules) in
    kept-told c.self.inside _ c.args.peer c.self.invariant refl refl debts (search (rules, debts)) (search (rules, debts)) (search rules) (search rules) refl

pub returns : goal.returns
returns c =
    let old = c.self.inside in
    let debts = written-items old.debts c.pay.new.debts (one_less c.args.peer) (search rules) in
    let new : Inside = record { domain = old.domain; nodes = old.nodes; records = c.settle.new.records; live = old.live; events = c.settle.new.events; debts = with_items old.debts c.pay.new.debts; given = old.given } in
    view-told old new c.args.peer c.self.invariant debts (search (rules, debts)) (search (rules, debts)) refl refl refl
    ∙ ap (λ (t : Table). paid_to t c.args.peer) c.self.view_is
