use Rattle.std.proofs.Common.{◌≡◌, ◌∙◌, ℕ, Some, refl, ap, sym, subst}
use Rattle.std.specs.Prelude.{IsSome, option_map}
use Rattle.buffer_book.specs.Book.{Shelf, taken_named, item_on, kept_on_place}
use Rattle.buffer_book.specs.Runs.{Columns, columns_of, head_on, run_of_item, shelf_of_columns, IsSound}
use Rattle.buffer_book.proofs.TakenItems.{sound-take}
use Rattle.buffer_book.proofs.ShelfItems.{run-head, known-head, shelf-taken, taken-columns}
use Rattle.buffer_book.proofs.shelf.PeerShelf.take_named.Goals as goal

pub take_held-held-requires : goal.take_held-held-requires
take_held-held-requires c =
    let k = columns_of c.self.inside.cells.items in
    let h = run-head k c.args.name c.args.run (subst (λ (s : Shelf). option_map run_of_item (item_on s.items c.args.name) ≡ Some c.args.run) (sym c.self.view_is) c.requires) in
    subst (λ (n : ℕ). IsSome (kept_on_place k.places n)) h.2 (c.self.invariant.runs c.args.name h.0 h.1).own.0.0

pub shorten-requires : goal.shorten-requires
shorten-requires c =
    let k = columns_of c.self.inside.cells.items in
    let h = run-head k c.args.name c.args.run (subst (λ (s : Shelf). option_map run_of_item (item_on s.items c.args.name) ≡ Some c.args.run) (sym c.self.view_is) c.requires) in
    let known = ap (λ (x : Columns). head_on x.heads c.args.name) c.take_held-held.ensures.columns ∙ known-head k c.args.name h.0 h.1 in
    rw known refl

pub invariant_of-self : goal.invariant_of-self
invariant_of-self c =
    let k = columns_of c.self.inside.cells.items in
    let h = run-head k c.args.name c.args.run (subst (λ (s : Shelf). option_map run_of_item (item_on s.items c.args.name) ≡ Some c.args.run) (sym c.self.view_is) c.requires) in
    subst (λ (x : Columns). IsSound x c.self.inside.aside.items c.self.inside.aside_count) (sym (taken-columns k (columns_of c.take_held-held.new.cells.items) (columns_of c.shorten.new.cells.items) c.args.name c.args.run.first c.take_held-held.result.1 h.0 c.shorten.ensures c.take_held-held.ensures.columns c.take_held-held.ensures.next h.2 h.1))
    (sound-take k c.self.inside.aside.items c.self.inside.aside_count c.args.name h.0 c.self.invariant h.1)

pub returns-clause-shelf : goal.returns-clause-shelf
returns-clause-shelf c =
    let k = columns_of c.self.inside.cells.items in
    let h = run-head k c.args.name c.args.run (subst (λ (s : Shelf). option_map run_of_item (item_on s.items c.args.name) ≡ Some c.args.run) (sym c.self.view_is) c.requires) in
    ap (λ (x : Columns). shelf_of_columns c.self.inside.peer x c.self.inside.aside.items) (taken-columns k (columns_of c.take_held-held.new.cells.items) (columns_of c.shorten.new.cells.items) c.args.name c.args.run.first c.take_held-held.result.1 h.0 c.shorten.ensures c.take_held-held.ensures.columns c.take_held-held.ensures.next h.2 h.1)
    ∙ shelf-taken c.self.inside.peer k c.self.inside.aside.items c.args.name h.0 h.1
    ∙ ap (taken_named c.args.name) c.self.view_is
