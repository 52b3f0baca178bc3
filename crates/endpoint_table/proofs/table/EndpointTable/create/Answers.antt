use Rattle.std.proofs.Common.{rules, arith, ◌≡◌, ◌<◌, ◌≤◌, ◌+◌, ap, length, refl, true, subst, sym, ◌∙◌}
use Rattle.std.specs.Prelude.{find, option_map, None, Result, Ok, Err, IsOk, IsErr}
use Rattle.std.specs.List.{AllByRecursion}
use Rattle.std.specs.Vec.{with_items}
use Rattle.mc_base.specs.Limits.{first_address}
use Rattle.mc_base.specs.NameMap.{learned}
use Rattle.endpoint_table.specs.declared.debts.Debt.{Debt}
use Rattle.endpoint_table.specs.declared.record.Record.{Record}
use Rattle.endpoint_table.specs.declared.announced.Announced.{Announced}
use Rattle.endpoint_table.specs.declared.table.EndpointTable.TheInside.{Inside}
use Rattle.endpoint_table.specs.Table.{Table, created, is_live_at, live_at}
use Rattle.endpoint_table.specs.InTable.{HasBounds, name_in, one_more}
use Rattle.endpoint_table.proofs.IndexLemmas.{none-live, room-for-name}
use Rattle.endpoint_table.proofs.TableLemmas.{debts-fit, room-to-create, kept-created, view-created, written-items}
use Rattle.endpoint_table.proofs.table.EndpointTable.create.Goals as goal

ok-unless : {X E : Type 0} (r : Result X E) → (IsErr r → ⊥) → IsOk r
ok-unless (Ok x) never = refl
ok-unless (Err e) never = absurd (never refl)

pub unwrap-requires-2 : goal.unwrap-requires-2
unwrap-requires-2 c =
    let few : length c.self.inside.records.items < 64 = search (rules, arith) in
    let room = room-for-name c.self.inside.domain c.self.inside.records.items c.self.inside.live c.self.invariant.indexed in
    ok-unless c.learn.result (λ refused. let full : 64 ≤ length c.self.inside.live = (c.learn.ensures.full.0 refused).1 in omega (arith, few, room, full))

pub announce-requires-clause-room : goal.announce-requires-clause-room
announce-requires-clause-room c =
    let few : length c.self.inside.records.items < 64 = search (rules, arith) in
    let room = room-to-create c.self.inside c.self.invariant few in
    omega (arith, room, c.self.invariant.event_room)

pub announce-requires-clause-within : goal.announce-requires-clause-within
announce-requires-clause-within c = subst (λ ds. AllByRecursion (λ (d : Debt). d.owed < 9223372036854775808) ds) (sym c.deref_mut.ensures.value) (debts-fit c.self.inside c.self.invariant)

pub invariant_of-self : goal.invariant_of-self
invariant_of-self c =
    let old = c.self.inside in
    let few : length old.records.items < 64 = search (rules, arith) in
    let given : old.given < 60000 = search (rules, arith) in
    let r : Record = record { local = c.args.local; address = first_address + old.given; live = true } in
    let e : Announced = record { local = c.args.local; address = first_address + old.given; create = true } in
    let debts = written-items old.debts c.announce.new.debts one_more (search rules) in
    let learned_name : c.learn.new.self ≡ learned (name_in old.domain c.args.local) r.address old.live = search rules in
    let fits : HasBounds r = record { node = omega arith; port = omega arith } in
    let free : option_map (λ r. r.address) (live_at c.args.self.now c.args.local) ≡ None = search rules in
    let none : find (is_live_at c.args.local) old.records.items ≡ None = none-live c.args.local old.records.items (ap (λ (t : Table). option_map (λ r. r.address) (live_at t c.args.local)) c.self.view_is ∙ free) in
    kept-created old _ r e c.self.invariant fits none refl learned_name few given refl refl refl refl debts (search rules) (search rules) (search (rules, arith)) (search rules) refl

pub returns-clause-created : goal.returns-clause-created
returns-clause-created c =
    let old = c.self.inside in
    let r : Record = record { local = c.args.local; address = first_address + old.given; live = true } in
    let e : Announced = record { local = c.args.local; address = first_address + old.given; create = true } in
    let debts = written-items old.debts c.announce.new.debts one_more (search rules) in
    let new : Inside = record { domain = old.domain; nodes = old.nodes; records = c.announce.new.records; live = c.learn.new.self; events = c.announce.new.events; debts = with_items old.debts c.announce.new.debts; given = old.given + 1 } in
    view-created old new c.args.local r e c.self.invariant refl refl debts (search rules) (search rules) refl refl refl
    ∙ ap (λ (t : Table). created t c.args.local) c.self.view_is
