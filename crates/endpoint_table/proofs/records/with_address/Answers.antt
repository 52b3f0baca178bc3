use Rattle.std.proofs.Common.{◌≡◌, ◌∙◌, true, false, cond, get_or, Some, None, ap, sym}
use Rattle.endpoint_table.specs.declared.record.Record.{Record}
use Rattle.endpoint_table.proofs.SearchLemmas.{find-absent, find-place}
use Rattle.endpoint_table.proofs.records.with_address.Goals as goal

abbrev nothing : Record
nothing = record { local = record { node = 0; port = 0 }; address = 0; live = false }

pub returns-in-Ok : goal.returns-in-Ok
returns-in-Ok c =
    let rs = c.args.records.now in
    let place = c.in-Ok.ensures.found in
    let r = get_or rs c.in-Ok.place nothing in
    let live : r.live ≡ true = c.if-records-place.true in
    sym (find-place c.args.address rs c.in-Ok.place nothing c.requires place.within (place.addressed nothing) ∙ ap (λ b. cond b (Some r) None) live)

pub returns-in_default : goal.returns-in_default
returns-in_default c =
    let rs = c.args.records.now in
    let place = c.in-Ok.ensures.found in
    let r = get_or rs c.in-Ok.place nothing in
    let dead : r.live ≡ false = c.if-records-place.false in
    sym (find-place c.args.address rs c.in-Ok.place nothing c.requires place.within (place.addressed nothing) ∙ ap (λ b. cond b (Some r) None) dead)

pub returns-in_default-2 : goal.returns-in_default-2
returns-in_default-2 c = sym (find-absent c.args.address c.args.records.now c.in_default.ensures.absent)
