use Rattle.std.proofs.Common.{◌≡◌, ◌+◌, ◌∙◌, ℕ, List, Option, Some, None, length, refl, ap, sym, subst}
use Rattle.std.specs.Prelude.{option_map, option_and_then, slice_get, slice_set, ◌==◌}
use Rattle.std.proofs.lemmas.Option.{slice_get_read}
use Rattle.buffer_book.specs.declared.cell.Resting.{Resting}
use Rattle.buffer_book.specs.Book.{Shelf, Item, item_aside, kept_on_place, frame_on, is_single, taken_aside}
use Rattle.buffer_book.specs.Links.{at}
use Rattle.buffer_book.specs.Runs.{Columns, columns_of, with_held, aside_of_resting, rested, resting_one, shelf_of_columns, IsSound}
use Rattle.buffer_book.proofs.Walks.{length-walk}
use Rattle.buffer_book.proofs.TakenItems.{sound-rest}
use Rattle.buffer_book.proofs.Items.{flat-some, aside-counts}
use Rattle.buffer_book.proofs.Found.{not-none}
use Rattle.buffer_book.proofs.ShelfItems.{within-aside, aside-at, found-aside, shelf-rested}
use Rattle.buffer_book.proofs.shelf.PeerShelf.take_aside.Goals as goal

pub take_held-held-requires : goal.take_held-held-requires
take_held-held-requires c =
    let there = slice_get_read c.self.inside.aside.items (length c.self.inside.aside.items) c.in_ok-place.place c.index.result.now refl (within-aside c.self.inside.peer (columns_of c.self.inside.cells.items) c.self.inside.aside.items c.args.self.now c.in_ok-place.place c.self.view_is c.in_ok-place.ensures.within) c.index.ensures ∙ ap (λ (o : Option Resting). Some o) c.in_ok-resting.was in
    (c.self.invariant.aside c.in_ok-place.place c.in_ok-resting.resting there).own.0.0

pub shorten_aside-requires-clause-within : goal.shorten_aside-requires-clause-within
shorten_aside-requires-clause-within c = within-aside c.self.inside.peer (columns_of c.self.inside.cells.items) c.self.inside.aside.items c.args.self.now c.in_ok-place.place c.self.view_is c.in_ok-place.ensures.within

pub shorten_aside-requires-clause-counted : goal.shorten_aside-requires-clause-counted
shorten_aside-requires-clause-counted c =
    let there = slice_get_read c.self.inside.aside.items (length c.self.inside.aside.items) c.in_ok-place.place c.index.result.now refl (within-aside c.self.inside.peer (columns_of c.self.inside.cells.items) c.self.inside.aside.items c.args.self.now c.in_ok-place.place c.self.view_is c.in_ok-place.ensures.within) c.index.ensures ∙ ap (λ (o : Option Resting). Some o) c.in_ok-resting.was in
    aside-counts (columns_of c.self.inside.cells.items) c.self.inside.aside.items c.self.inside.aside_count c.in_ok-place.place c.in_ok-resting.resting c.self.invariant there

pub invariant_of-self : goal.invariant_of-self
invariant_of-self c =
    let there = slice_get_read c.self.inside.aside.items (length c.self.inside.aside.items) c.in_ok-place.place c.index.result.now refl (within-aside c.self.inside.peer (columns_of c.self.inside.cells.items) c.self.inside.aside.items c.args.self.now c.in_ok-place.place c.self.view_is c.in_ok-place.ensures.within) c.index.ensures ∙ ap (λ (o : Option Resting). Some o) c.in_ok-resting.was in
    let k = columns_of c.self.inside.cells.items in
    let rs = c.self.inside.aside.items in
    let r = c.in_ok-resting.resting in
    let l = c.in_ok-place.place in
    let next : c.take_held-held.result.1 ≡ at k.next r.first = c.take_held-held.ensures.next in
    let aside = c.shorten_aside.ensures.aside ∙ ap (λ (n : ℕ). slice_set rs l (rested n r r.more)) next in
    let count = c.shorten_aside.ensures.count ∙ ap (λ (n : ℕ). c.self.inside.aside_count + resting_one (rested n r r.more)) next in
    subst (λ (x : List (Option Resting)). IsSound (columns_of c.take_held-held.new.cells.items) x c.shorten_aside.new.count) (sym aside)
    (subst (λ (x : Columns). IsSound x (slice_set rs l (rested (at k.next r.first) r r.more)) c.shorten_aside.new.count) (sym c.take_held-held.ensures.columns)
    (sound-rest k rs c.self.inside.aside_count c.shorten_aside.new.count l r c.self.invariant there count))

pub returns-clause-none : goal.returns-clause-none
returns-clause-none c =
    let there = slice_get_read c.self.inside.aside.items (length c.self.inside.aside.items) c.in_ok-place.place c.index.result.now refl (within-aside c.self.inside.peer (columns_of c.self.inside.cells.items) c.self.inside.aside.items c.args.self.now c.in_ok-place.place c.self.view_is c.in_ok-place.ensures.within) c.index.ensures ∙ ap (λ (o : Option Resting). Some o) c.in_ok-resting.was in
    let item = found-aside c.args.self.now c.args.name c.args.lent c.in_ok-place.place (aside_of_resting (columns_of c.self.inside.cells.items).next c.in_ok-resting.resting) c.in_ok-place.ensures.place (aside-at c.self.inside.peer (columns_of c.self.inside.cells.items) c.self.inside.aside.items c.args.self.now c.in_ok-place.place (Some c.in_ok-resting.resting) c.self.view_is there) in
    (λ n. absurd cc, λ n. not-none _ (item_aside c.args.self.now.aside c.args.name c.args.lent) (aside_of_resting (columns_of c.self.inside.cells.items).next c.in_ok-resting.resting).item item n)

pub returns-clause-frame : goal.returns-clause-frame
returns-clause-frame c =
    let there = slice_get_read c.self.inside.aside.items (length c.self.inside.aside.items) c.in_ok-place.place c.index.result.now refl (within-aside c.self.inside.peer (columns_of c.self.inside.cells.items) c.self.inside.aside.items c.args.self.now c.in_ok-place.place c.self.view_is c.in_ok-place.ensures.within) c.index.ensures ∙ ap (λ (o : Option Resting). Some o) c.in_ok-resting.was in
    let item = found-aside c.args.self.now c.args.name c.args.lent c.in_ok-place.place (aside_of_resting (columns_of c.self.inside.cells.items).next c.in_ok-resting.resting) c.in_ok-place.ensures.place (aside-at c.self.inside.peer (columns_of c.self.inside.cells.items) c.self.inside.aside.items c.args.self.now c.in_ok-place.place (Some c.in_ok-resting.resting) c.self.view_is there) in
    c.take_held-held.ensures.held
    ∙ ap (λ (s : Shelf). kept_on_place s.places c.in_ok-resting.resting.first) c.self.view_is
    ∙ sym (ap (option_and_then (frame_on c.args.self.now 0)) item)

pub returns-clause-last : goal.returns-clause-last
returns-clause-last c =
    let there = slice_get_read c.self.inside.aside.items (length c.self.inside.aside.items) c.in_ok-place.place c.index.result.now refl (within-aside c.self.inside.peer (columns_of c.self.inside.cells.items) c.self.inside.aside.items c.args.self.now c.in_ok-place.place c.self.view_is c.in_ok-place.ensures.within) c.index.ensures ∙ ap (λ (o : Option Resting). Some o) c.in_ok-resting.was in
    let item = found-aside c.args.self.now c.args.name c.args.lent c.in_ok-place.place (aside_of_resting (columns_of c.self.inside.cells.items).next c.in_ok-resting.resting) c.in_ok-place.ensures.place (aside-at c.self.inside.peer (columns_of c.self.inside.cells.items) c.self.inside.aside.items c.args.self.now c.in_ok-place.place (Some c.in_ok-resting.resting) c.self.view_is there) in
    let k = columns_of c.self.inside.cells.items in
    let r = c.in_ok-resting.resting in
    sym (ap (option_map is_single) item ∙ ap (λ (n : ℕ). Some (n == 0)) (length-walk k.next r.more (at k.next r.first)))

pub returns-clause-number : goal.returns-clause-number
returns-clause-number c =
    let there = slice_get_read c.self.inside.aside.items (length c.self.inside.aside.items) c.in_ok-place.place c.index.result.now refl (within-aside c.self.inside.peer (columns_of c.self.inside.cells.items) c.self.inside.aside.items c.args.self.now c.in_ok-place.place c.self.view_is c.in_ok-place.ensures.within) c.index.ensures ∙ ap (λ (o : Option Resting). Some o) c.in_ok-resting.was in
    let item = found-aside c.args.self.now c.args.name c.args.lent c.in_ok-place.place (aside_of_resting (columns_of c.self.inside.cells.items).next c.in_ok-resting.resting) c.in_ok-place.ensures.place (aside-at c.self.inside.peer (columns_of c.self.inside.cells.items) c.self.inside.aside.items c.args.self.now c.in_ok-place.place (Some c.in_ok-resting.resting) c.self.view_is there) in
    let k = columns_of c.self.inside.cells.items in
    let r = c.in_ok-resting.resting in
    let held = flat-some (slice_get k.places r.first) c.take_held-held.result.0 (sym c.take_held-held.ensures.held) in
    ap (λ (n : ℕ). Some n) (c.self.invariant.numbered r.first c.take_held-held.result.0 held) ∙ sym (ap (option_map (λ (i : Item). i.first)) item)

pub returns-clause-shelf : goal.returns-clause-shelf
returns-clause-shelf c =
    let there = slice_get_read c.self.inside.aside.items (length c.self.inside.aside.items) c.in_ok-place.place c.index.result.now refl (within-aside c.self.inside.peer (columns_of c.self.inside.cells.items) c.self.inside.aside.items c.args.self.now c.in_ok-place.place c.self.view_is c.in_ok-place.ensures.within) c.index.ensures ∙ ap (λ (o : Option Resting). Some o) c.in_ok-resting.was in
    let k = columns_of c.self.inside.cells.items in
    let rs = c.self.inside.aside.items in
    let r = c.in_ok-resting.resting in
    let l = c.in_ok-place.place in
    let next : c.take_held-held.result.1 ≡ at k.next r.first = c.take_held-held.ensures.next in
    let aside = c.shorten_aside.ensures.aside ∙ ap (λ (n : ℕ). slice_set rs l (rested n r r.more)) next in
    ap (λ (x : Columns). shelf_of_columns c.self.inside.peer x c.shorten_aside.new.aside.items) c.take_held-held.ensures.columns
    ∙ ap (λ (x : List (Option Resting)). shelf_of_columns c.self.inside.peer (with_held k r.first None) x) aside
    ∙ shelf-rested c.self.inside.peer k rs l r there
    ∙ ap (taken_aside (Some l)) c.self.view_is
    ∙ ap (λ (o : Option ℕ). taken_aside o c.args.self.now) c.in_ok-place.ensures.place
