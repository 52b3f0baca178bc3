use Rattle.std.proofs.Common.{◌∙◌, sym, ap, arith}
use Rattle.std.specs.Prelude.{is_some}
use Rattle.mc_base.specs.NameMap.{Names, address_in, forgotten}
use Rattle.name_service.specs.InKnownNames.{IsPlace, IsGap, names_in}
use Rattle.name_service.proofs.NamePlaces.{address-place, address-gap, remove-is-forgotten, forgotten-gap, map-remove}
use Rattle.name_service.proofs.known.KnownNames.forget.Goals as goal

pub invariant_of-self : goal.invariant_of-self
invariant_of-self c =
    let items = c.self.inside.list.items in
    let place : IsPlace (names_in items) c.args.name c.in-Ok.place = rw (← c.deref.ensures.value) c.in-Ok.ensures.found in
    record {
      map = rw c.remove.ensures.items (map-remove c.args.name items c.in-Ok.place c.self.invariant.map place);
      room = omega (arith, c.remove.ensures.capacity, c.self.invariant.room);
    }

pub returns-in-Ok-clause-known : goal.returns-in-Ok-clause-known
returns-in-Ok-clause-known c =
    let items = c.self.inside.list.items in
    let place : IsPlace (names_in items) c.args.name c.in-Ok.place = rw (← c.deref.ensures.value) c.in-Ok.ensures.found in
    sym (ap is_some (address-place c.args.name items c.in-Ok.place c.remove.result c.self.invariant.map.rising place))
    ∙ ap (λ (ks : Names). is_some (address_in c.args.name ks)) c.self.view_is

pub returns-in-Ok-clause-forgotten : goal.returns-in-Ok-clause-forgotten
returns-in-Ok-clause-forgotten c =
    let items = c.self.inside.list.items in
    let place : IsPlace (names_in items) c.args.name c.in-Ok.place = rw (← c.deref.ensures.value) c.in-Ok.ensures.found in
    ap names_in c.remove.ensures.items
    ∙ remove-is-forgotten c.args.name items c.in-Ok.place c.self.invariant.map place
    ∙ ap (forgotten c.args.name) c.self.view_is

pub returns-in-Ok-clause-map : goal.returns-in-Ok-clause-map
returns-in-Ok-clause-map c = (invariant_of-self c).map

pub returns-in-Err-clause-known : goal.returns-in-Err-clause-known
returns-in-Err-clause-known c =
    let gap : IsGap (names_in c.self.inside.list.items) c.args.name c.in-Err.field-0 = rw (← c.deref.ensures.value) c.in-Err.ensures.absent in
    sym (ap is_some (address-gap c.args.name _ c.in-Err.field-0 gap))
    ∙ ap (λ (ks : Names). is_some (address_in c.args.name ks)) c.self.view_is

pub returns-in-Err-clause-forgotten : goal.returns-in-Err-clause-forgotten
returns-in-Err-clause-forgotten c =
    let gap : IsGap (names_in c.self.inside.list.items) c.args.name c.in-Err.field-0 = rw (← c.deref.ensures.value) c.in-Err.ensures.absent in
    sym c.self.view_is ∙ sym (forgotten-gap c.args.name _ c.in-Err.field-0 gap) ∙ ap (forgotten c.args.name) c.self.view_is
