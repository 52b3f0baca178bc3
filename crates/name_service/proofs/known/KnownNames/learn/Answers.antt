use Rattle.std.proofs.Common.{◌≡◌, ◌<◌, ◌∙◌, sym, ap, arith, length, None}
use Rattle.std.specs.List.{insert}
use Rattle.std.proofs.lemmas.List.{length-map}
use Rattle.mc_base.specs.NameMap.{Names, HasBounds, address_in, learned}
use Rattle.name_service.specs.InKnownNames.{IsPlace, IsGap, names_in, pair_of}
use Rattle.name_service.proofs.NamePlaces.{address-place, address-gap, set-is-learned, insert-is-learned, map-set, map-insert}
use Rattle.name_service.proofs.known.KnownNames.learn.Goals as goal

-- ---- a known name

pub invariant_of-self : goal.invariant_of-self
invariant_of-self c =
    let items = c.self.inside.list.items in
    let place : IsPlace (names_in items) c.args.name c.in-Ok.place = rw (← c.deref.ensures.value) c.in-Ok.ensures.found in
    let fits : HasBounds c.args.name = record { domain = omega arith; node = omega arith; port = omega arith } in
    record {
      map = map-set c.args.name c.args.addr items c.in-Ok.place fits c.self.invariant.map place;
      room = c.self.invariant.room;
    }

pub returns-in-Ok-clause-full : goal.returns-in-Ok-clause-full
returns-in-Ok-clause-full c =
    let items = c.self.inside.list.items in
    let place : IsPlace (names_in items) c.args.name c.in-Ok.place = rw (← c.deref.ensures.value) c.in-Ok.ensures.found in
    let known = address-place c.args.name items c.in-Ok.place (record { name = c.args.name; addr = c.args.addr }) c.self.invariant.map.rising place in
    let same : address_in c.args.name (names_in items) ≡ address_in c.args.name c.args.self.now = ap (λ (ks : Names). address_in c.args.name ks) c.self.view_is in
    grind (arith, known, same)

pub returns-in-Ok-clause-learned : goal.returns-in-Ok-clause-learned
returns-in-Ok-clause-learned c =
    let items = c.self.inside.list.items in
    let place : IsPlace (names_in items) c.args.name c.in-Ok.place = rw (← c.deref.ensures.value) c.in-Ok.ensures.found in
    set-is-learned c.args.name c.args.addr items c.in-Ok.place c.self.invariant.map place
    ∙ ap (learned c.args.name c.args.addr) c.self.view_is

pub returns-in-Ok-clause-map : goal.returns-in-Ok-clause-map
returns-in-Ok-clause-map c = (invariant_of-self c).map

-- ---- a new name

pub returns-then-len-ge-NAMES_KNOWN-clause-full : goal.returns-then-len-ge-NAMES_KNOWN-clause-full
returns-then-len-ge-NAMES_KNOWN-clause-full c =
    let items = c.self.inside.list.items in
    let gap : IsGap (names_in items) c.args.name c.in-Err.place = rw (← c.deref.ensures.value) c.in-Err.ensures.absent in
    let new : address_in c.args.name c.args.self.now ≡ None = ap (λ (ks : Names). address_in c.args.name ks) (sym c.self.view_is) ∙ address-gap c.args.name _ c.in-Err.place gap in
    let len : length (names_in items) ≡ length c.args.self.now = ap (λ (ks : Names). length ks) c.self.view_is in
    grind (arith, new, len, length-map items pair_of)

pub invariant_of-self-in-Err : goal.invariant_of-self-in-Err
invariant_of-self-in-Err c =
    let items = c.self.inside.list.items in
    let gap : IsGap (names_in items) c.args.name c.in-Err.place = rw (← c.deref.ensures.value) c.in-Err.ensures.absent in
    let fits : HasBounds c.args.name = record { domain = omega arith; node = omega arith; port = omega arith } in
    let inserted : c.insert.new.self.items ≡ insert items c.in-Err.place (record { name = c.args.name; addr = c.args.addr }) = grind (arith, c.insert.ensures.items, c.unwrap.ensures) in
    let room : length items < 64 = omega (arith, ap length c.deref.ensures.value, c.deref.ensures.len) in
    record {
      map = rw inserted (map-insert c.args.name c.args.addr items c.in-Err.place fits c.self.invariant.map gap room);
      room = omega (arith, c.insert.ensures.capacity, c.self.invariant.room);
    }

pub returns-else-len-ge-NAMES_KNOWN-clause-learned : goal.returns-else-len-ge-NAMES_KNOWN-clause-learned
returns-else-len-ge-NAMES_KNOWN-clause-learned c =
    let items = c.self.inside.list.items in
    let gap : IsGap (names_in items) c.args.name c.in-Err.place = rw (← c.deref.ensures.value) c.in-Err.ensures.absent in
    let inserted : c.insert.new.self.items ≡ insert items c.in-Err.place (record { name = c.args.name; addr = c.args.addr }) = grind (arith, c.insert.ensures.items, c.unwrap.ensures) in
    ap names_in inserted
    ∙ insert-is-learned c.args.name c.args.addr items c.in-Err.place gap
    ∙ ap (learned c.args.name c.args.addr) c.self.view_is

pub returns-else-len-ge-NAMES_KNOWN-clause-map : goal.returns-else-len-ge-NAMES_KNOWN-clause-map
returns-else-len-ge-NAMES_KNOWN-clause-map c = (invariant_of-self-in-Err c).map
