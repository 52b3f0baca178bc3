use Rattle.std.proofs.Common.{◌≡◌, ◌<◌, ◌+◌, ◌∙◌, ℕ, suc, length, ap, sym, subst, Option, Some, true, false, arith}
use Rattle.std.specs.Prelude.{IsSome, IsNone, IfSome, slice_get, option_and_then}
use Rattle.std.proofs.lemmas.List.{length-map}
use Rattle.buffer_book.specs.declared.cell.Cell.{Cell}
use Rattle.buffer_book.specs.Book.{Kept, Item, Shelf, count_of, item_of_shelf, frames_of, frame_on, kept_on_place}
use Rattle.buffer_book.specs.Runs.{columns_of}
use Rattle.buffer_book.proofs.CellWrites.{held-read, next-read}
use Rattle.buffer_book.proofs.Found.{found, run-some, frame-within, frame-next, not-none}
use Rattle.buffer_book.proofs.shelf.PeerShelf.frame.Goals as goal

abbrev nth : ℕ → Item → Option ℕ
nth n i = slice_get (frames_of i) n

pub loop-init : goal.loop-init
loop-init c =
    let it = run-some (item_of_shelf c.args.self.now c.args.name c.args.lent) c.in_ok-at.field-0 (sym c.in_ok-at.ensures) in
    let is = found c.self.inside.peer (columns_of c.self.inside.cells.items) c.self.inside.aside.items c.self.inside.aside_count c.args.name c.args.lent it.0 c.self.invariant (ap (λ (s : Shelf). item_of_shelf s c.args.name c.args.lent) c.self.view_is ∙ it.1) in
    sym (ap (option_and_then (nth 0)) it.1 ∙ ap (λ (n : ℕ). Some n) it.2)

pub index-requires : goal.index-requires
index-requires c =
    let it = run-some (item_of_shelf c.args.self.now c.args.name c.args.lent) c.in_ok-at.field-0 (sym c.in_ok-at.ensures) in
    let is = found c.self.inside.peer (columns_of c.self.inside.cells.items) c.self.inside.aside.items c.self.inside.aside_count c.args.name c.args.lent it.0 c.self.invariant (ap (λ (s : Shelf). item_of_shelf s c.args.name c.args.lent) c.self.view_is ∙ it.1) in
    let here = sym (c.loop.invariant ∙ ap (option_and_then (nth c.loop.counter)) it.1) in
    let lt = (frame-within (columns_of c.self.inside.cells.items) it.0 c.loop.counter c.loop.at is here).1 in
    let size = length-map c.self.inside.cells.items (λ (x : Cell). x.held) in
    omega (arith, lt, size)

pub loop-preserved : goal.loop-preserved
loop-preserved c =
    let it = run-some (item_of_shelf c.args.self.now c.args.name c.args.lent) c.in_ok-at.field-0 (sym c.in_ok-at.ensures) in
    let is = found c.self.inside.peer (columns_of c.self.inside.cells.items) c.self.inside.aside.items c.self.inside.aside_count c.args.name c.args.lent it.0 c.self.invariant (ap (λ (s : Shelf). item_of_shelf s c.args.name c.args.lent) c.self.view_is ∙ it.1) in
    let cs = c.self.inside.cells.items in
    let here = sym (c.loop.invariant ∙ ap (option_and_then (nth c.loop.counter)) it.1) in
    let within = (frame-within (columns_of cs) it.0 c.loop.counter c.loop.at is here).1 in
    let size = length-map cs (λ (x : Cell). x.held) in
    let lt : c.loop.at < length cs = omega (arith, within, size) in
    let bound = subst (λ (o : Option Item). IfSome o (λ i. c.args.n < count_of i)) it.1 c.requires in
    let after = frame-next (columns_of cs) it.0 c.loop.counter c.loop.at is here (omega (arith, bound)) in
    let read = next-read cs c.loop.at c.index.result.now lt c.index.ensures in
    let one : c.loop.counter + 1 ≡ suc c.loop.counter = omega arith in
    sym (ap (option_and_then (nth (c.loop.counter + 1))) it.1 ∙ ap (slice_get (frames_of it.0)) one ∙ after ∙ ap (λ (n : ℕ). Some n) read)

pub index-requires-2 : goal.index-requires-2
index-requires-2 c =
    let it = run-some (item_of_shelf c.args.self.now c.args.name c.args.lent) c.in_ok-at.field-0 (sym c.in_ok-at.ensures) in
    let is = found c.self.inside.peer (columns_of c.self.inside.cells.items) c.self.inside.aside.items c.self.inside.aside_count c.args.name c.args.lent it.0 c.self.invariant (ap (λ (s : Shelf). item_of_shelf s c.args.name c.args.lent) c.self.view_is ∙ it.1) in
    let here = sym (c.loop.invariant ∙ ap (option_and_then (nth c.loop.counter)) it.1) in
    let lt = (frame-within (columns_of c.self.inside.cells.items) it.0 c.loop.counter c.loop.at is here).1 in
    let size = length-map c.self.inside.cells.items (λ (x : Cell). x.held) in
    omega (arith, lt, size)

pub returns-clause-none : goal.returns-clause-none
returns-clause-none c =
    let it = run-some (item_of_shelf c.args.self.now c.args.name c.args.lent) c.in_ok-at.field-0 (sym c.in_ok-at.ensures) in
    let is = found c.self.inside.peer (columns_of c.self.inside.cells.items) c.self.inside.aside.items c.self.inside.aside_count c.args.name c.args.lent it.0 c.self.invariant (ap (λ (s : Shelf). item_of_shelf s c.args.name c.args.lent) c.self.view_is ∙ it.1) in
    let cs = c.self.inside.cells.items in
    let here = sym (c.loop.invariant ∙ ap (option_and_then (nth c.loop.counter)) it.1) in
    let within = frame-within (columns_of cs) it.0 c.loop.counter c.loop.at is here in
    let size = length-map cs (λ (x : Cell). x.held) in
    let read = held-read cs c.loop.at c.index-2.result.now (omega (arith, within.1, size)) c.index-2.ensures in
    let held = subst (λ (o : Option Kept). IsSome o) read within.0 in
    (λ none. let no : true ≡ false = sym held ∙ sym c.as_ref.ensures.variant ∙ none in absurd cc, λ none. not-none (IsNone c.as_ref.result) (item_of_shelf c.args.self.now c.args.name c.args.lent) it.0 it.1 none)

pub returns-clause-frame : goal.returns-clause-frame
returns-clause-frame c =
    let it = run-some (item_of_shelf c.args.self.now c.args.name c.args.lent) c.in_ok-at.field-0 (sym c.in_ok-at.ensures) in
    let is = found c.self.inside.peer (columns_of c.self.inside.cells.items) c.self.inside.aside.items c.self.inside.aside_count c.args.name c.args.lent it.0 c.self.invariant (ap (λ (s : Shelf). item_of_shelf s c.args.name c.args.lent) c.self.view_is ∙ it.1) in
    let cs = c.self.inside.cells.items in
    let last : c.loop.counter ≡ c.args.n = omega arith in
    let here = sym (c.loop.invariant ∙ ap (option_and_then (nth c.loop.counter)) it.1) in
    let within = frame-within (columns_of cs) it.0 c.loop.counter c.loop.at is here in
    let size = length-map cs (λ (x : Cell). x.held) in
    let read = held-read cs c.loop.at c.index-2.result.now (omega (arith, within.1, size)) c.index-2.ensures in
    c.as_ref.ensures.value
    ∙ sym (ap (option_and_then (frame_on c.args.self.now c.args.n)) it.1
    ∙ ap (option_and_then (kept_on_place c.args.self.now.places)) (ap (slice_get (frames_of it.0)) (sym last) ∙ here)
    ∙ ap (λ (s : Shelf). kept_on_place s.places c.loop.at) (sym c.self.view_is)
    ∙ read)
