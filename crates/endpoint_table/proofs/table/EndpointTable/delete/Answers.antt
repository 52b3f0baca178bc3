use Rattle.std.proofs.Common.{rules, arith, ◌≡◌, ◌<◌, ap, refl, false, subst, sym, ◌∙◌, Some}
use Rattle.std.specs.Prelude.{option_map}
use Rattle.std.specs.List.{AllByRecursion}
use Rattle.std.specs.Vec.{with_items}
use Rattle.mc_base.specs.NameMap.{forgotten}
use Rattle.endpoint_table.specs.declared.debts.Debt.{Debt}
use Rattle.endpoint_table.specs.declared.announced.Announced.{Announced}
use Rattle.endpoint_table.specs.declared.table.EndpointTable.TheInside.{Inside}
use Rattle.endpoint_table.specs.Table.{Table, deleted, ended, live_at}
use Rattle.endpoint_table.specs.InTable.{one_more}
use Rattle.endpoint_table.proofs.IndexLemmas.{is-found}
use Rattle.endpoint_table.proofs.TableLemmas.{debts-fit, room-to-end, kept-ended, view-ended, written-items}
use Rattle.endpoint_table.proofs.table.EndpointTable.delete.Goals as goal

pub announce-requires-clause-room : goal.announce-requires-clause-room
announce-requires-clause-room c =
    let there : option_map (λ r. r.address) (live_at c.args.self.now c.args.local) ≡ Some c.in_ok-address.address = search rules in
    let f = is-found c.args.local c.in_ok-address.address c.self.inside.records.items (ap (λ (t : Table). option_map (λ r. r.address) (live_at t c.args.local)) c.self.view_is ∙ there) in
    let room = room-to-end c.self.inside c.args.local f.record-found c.self.invariant f.found in
    omega (arith, room, c.self.invariant.event_room)

pub announce-requires-clause-within : goal.announce-requires-clause-within
announce-requires-clause-within c = subst (λ ds. AllByRecursion (λ (d : Debt). d.owed < 9223372036854775808) ds) (sym c.deref_mut-2.ensures.value) (debts-fit c.self.inside c.self.invariant)

pub invariant_of-self : goal.invariant_of-self
invariant_of-self c =
    let old = c.self.inside in
    let a = c.in_ok-address.address in
    let there : option_map (λ r. r.address) (live_at c.args.self.now c.args.local) ≡ Some a = search rules in
    let f = is-found c.args.local a old.records.items (ap (λ (t : Table). option_map (λ r. r.address) (live_at t c.args.local)) c.self.view_is ∙ there) in
    let e : Announced = record { local = c.args.local; address = a; create = false } in
    let debts = written-items old.debts c.announce.new.debts one_more (search rules) in
    let records = written-items old.records c.end.new.records (ended a) (search rules) in
    kept-ended old _ c.args.local f.record-found e c.self.invariant (omega arith) (omega arith) refl (c.forget.ensures.forgotten ∙ ap (λ n. forgotten n old.live) c.name_in.ensures) f.found (sym f.addressed) refl debts (search (rules, records)) (search (rules, records)) (search rules) (search rules) refl

pub returns-clause-deleted : goal.returns-clause-deleted
returns-clause-deleted c =
    let old = c.self.inside in
    let a = c.in_ok-address.address in
    let there : option_map (λ r. r.address) (live_at c.args.self.now c.args.local) ≡ Some a = search rules in
    let f = is-found c.args.local a old.records.items (ap (λ (t : Table). option_map (λ r. r.address) (live_at t c.args.local)) c.self.view_is ∙ there) in
    let e : Announced = record { local = c.args.local; address = a; create = false } in
    let told : e ≡ record { local = f.record-found.local; address = f.record-found.address; create = false } =
    ap (λ l. record { local = l; address = a; create = false }) (sym f.named) ∙ ap (λ n. record { local = f.record-found.local; address = n; create = false }) (sym f.addressed) in
    let debts = written-items old.debts c.announce.new.debts one_more (search rules) in
    let records = written-items old.records c.end.new.records (ended a) (search rules) in
    let new : Inside = record { domain = old.domain; nodes = old.nodes; records = c.announce.new.records; live = c.forget.new.self; events = c.announce.new.events; debts = with_items old.debts c.announce.new.debts; given = old.given } in
    view-ended old new c.args.local f.record-found e c.self.invariant f.found told debts (search (rules, records)) (search (rules, records)) refl refl refl
    ∙ ap (λ (t : Table). deleted t c.args.local) c.self.view_is
