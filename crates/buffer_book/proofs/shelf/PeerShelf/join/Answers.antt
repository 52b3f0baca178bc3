use Rattle.std.proofs.Common.{◌≡◌, ◌<◌, ◌^◌, ◌+◌, ◌∙◌, ℕ, length, Option, Some, None, refl, ap, sym, subst, arith}
use Rattle.std.specs.Prelude.{IsSome, IfSome, option_map}
use Rattle.std.proofs.lemmas.List.{length-map}
use Rattle.buffer_book.specs.declared.cell.Cell.{Cell}
use Rattle.buffer_book.specs.Book.{Shelf, joined, item_on, kept_on_place}
use Rattle.buffer_book.specs.Runs.{Head, Columns, columns_of, with_head, with_held, with_link, head_on, joined_head, shelf_of_columns, IsSound}
use Rattle.buffer_book.proofs.CellWrites.{cell-last}
use Rattle.buffer_book.proofs.Items.{sound-join, joined_columns, last-within, more-fits}
use Rattle.buffer_book.proofs.ShelfItems.{some-head, known-head, shelf-joined}
use Rattle.buffer_book.proofs.shelf.PeerShelf.join.Goals as goal

pub link-requires : goal.link-requires
link-requires c =
    let cs = c.self.inside.cells.items in
    let k = columns_of cs in
    let h = some-head k c.args.name (subst (λ (s : Shelf). IsSome (item_on s.items c.args.name)) (sym c.self.view_is) c.requires.item) in
    let last = cell-last cs c.args.name c.index.result.now h.0 c.index.ensures h.1 in
    let lt = last-within k c.self.inside.aside.items c.self.inside.aside_count c.args.name h.0 c.self.invariant h.1 in
    let size = length-map cs (λ (x : Cell). x.next) in
    omega (arith, last, lt, size)

pub lengthen-requires-clause-item : goal.lengthen-requires-clause-item
lengthen-requires-clause-item c =
    let k = columns_of c.self.inside.cells.items in
    let h = some-head k c.args.name (subst (λ (s : Shelf). IsSome (item_on s.items c.args.name)) (sym c.self.view_is) c.requires.item) in
    let known = ap (λ (x : Columns). head_on x.heads c.args.name) c.link.ensures ∙ known-head k c.args.name h.0 h.1 in
    rw known refl

pub lengthen-requires-clause-fits : goal.lengthen-requires-clause-fits
lengthen-requires-clause-fits c =
    let k = columns_of c.self.inside.cells.items in
    let h = some-head k c.args.name (subst (λ (s : Shelf). IsSome (item_on s.items c.args.name)) (sym c.self.view_is) c.requires.item) in
    let known = ap (λ (x : Columns). head_on x.heads c.args.name) c.link.ensures ∙ known-head k c.args.name h.0 h.1 in
    subst (λ (o : Option Head). IfSome o (λ h. h.more + 1 < 2 ^ 32)) (sym known) (more-fits k c.self.inside.aside.items c.self.inside.aside_count c.args.name h.0 c.self.invariant h.1)

-- the columns after it
after : (c : goal.After-hold) (h : Head) → h.last ≡ c.index.result.now.last → head_on (columns_of c.self.inside.cells.items).heads c.args.name ≡ Some h → columns_of c.hold.new.cells.items ≡ joined_columns (columns_of c.self.inside.cells.items) c.args.name c.args.number c.args.held h
after c h last known =
    let k = columns_of c.self.inside.cells.items in
    let n = c.args.number in
    c.hold.ensures
    ∙ ap (λ (x : Columns). with_held x n (Some c.args.held)) (c.lengthen.ensures
    ∙ ap (λ (x : Columns). with_head x c.args.name (option_map (joined_head n) (head_on x.heads c.args.name))) c.link.ensures
    ∙ ap (λ (l : ℕ). with_head (with_link k l n) c.args.name (option_map (joined_head n) (head_on k.heads c.args.name))) (sym last)
    ∙ ap (λ (o : Option Head). with_head (with_link k h.last n) c.args.name (option_map (joined_head n) o)) known)

pub invariant_of-self : goal.invariant_of-self
invariant_of-self c =
    let k = columns_of c.self.inside.cells.items in
    let h = some-head k c.args.name (subst (λ (s : Shelf). IsSome (item_on s.items c.args.name)) (sym c.self.view_is) c.requires.item) in
    let last = cell-last c.self.inside.cells.items c.args.name c.index.result.now h.0 c.index.ensures h.1 in
    subst (λ (x : Columns). IsSound x c.self.inside.aside.items c.self.inside.aside_count) (sym (after c h.0 last (known-head k c.args.name h.0 h.1)))
    (sound-join k c.self.inside.aside.items c.self.inside.aside_count c.args.name c.args.number c.args.held h.0 c.self.invariant h.1
    (subst (λ (s : Shelf). c.args.number < length s.places) (sym c.self.view_is) c.requires.within)
    (subst (λ (s : Shelf). kept_on_place s.places c.args.number ≡ None) (sym c.self.view_is) c.requires.away)
    c.requires.number)

pub returns : goal.returns
returns c =
    let k = columns_of c.self.inside.cells.items in
    let h = some-head k c.args.name (subst (λ (s : Shelf). IsSome (item_on s.items c.args.name)) (sym c.self.view_is) c.requires.item) in
    let last = cell-last c.self.inside.cells.items c.args.name c.index.result.now h.0 c.index.ensures h.1 in
    ap (λ (x : Columns). shelf_of_columns c.self.inside.peer x c.self.inside.aside.items) (after c h.0 last (known-head k c.args.name h.0 h.1))
    ∙ shelf-joined c.self.inside.peer k c.self.inside.aside.items c.self.inside.aside_count c.args.name c.args.number c.args.held h.0 c.self.invariant h.1
    ∙ ap (joined c.args.name c.args.number c.args.held) c.self.view_is
