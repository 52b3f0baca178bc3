use Rattle.std.proofs.Common.{◌∙◌, sym, ap, Some}
use Rattle.mc_base.specs.NameMap.{Names, address_in}
use Rattle.name_service.specs.InKnownNames.{IsPlace, IsGap, names_in}
use Rattle.name_service.proofs.NamePlaces.{address-place, address-gap}
use Rattle.name_service.proofs.known.KnownNames.find.Goals as goal

pub returns-in-Ok-clause-address : goal.returns-in-Ok-clause-address
returns-in-Ok-clause-address c =
    let items = c.self.inside.list.items in
    let place : IsPlace (names_in items) c.args.name c.in-Ok.place = rw (← c.deref.ensures.value) c.in-Ok.ensures.found in
    ap (λ k. Some k.addr) c.index.ensures
    ∙ sym (address-place c.args.name items c.in-Ok.place c.index.result.now c.self.invariant.map.rising place)
    ∙ ap (λ (ks : Names). address_in c.args.name ks) c.self.view_is

pub returns-in-Err-clause-address : goal.returns-in-Err-clause-address
returns-in-Err-clause-address c =
    let gap : IsGap (names_in c.self.inside.list.items) c.args.name c.in-Err.field-0 = rw (← c.deref.ensures.value) c.in-Err.ensures.absent in
    sym (address-gap c.args.name _ c.in-Err.field-0 gap) ∙ ap (λ (ks : Names). address_in c.args.name ks) c.self.view_is
