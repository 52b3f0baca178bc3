use Rattle.std.proofs.Common.{◌≡◌, ℕ, ◌-◌, ◌++◌, ◌∙◌, ap, sym, refl, arith, set}
use Rattle.message_queue.specs.Linked.{at}
use Rattle.message_queue.specs.Queue.{Waiting}
use Rattle.message_queue.specs.Cells.{Columns, columns_of, with_link, with_next, held_at, waiting_in, waiting_at, order_of, spare_of, IsSound, IsFirst}
use Rattle.message_queue.proofs.CellLists.{taken_out}
use Rattle.message_queue.proofs.CellReads.{prev_read, next_read, same_read, held_read}
use Rattle.message_queue.proofs.SoundCells.{take_places, take_count, take_sound}
use Rattle.message_queue.proofs.Chains.{Differ-left}
use Rattle.message_queue.proofs.Choosing.{without_place-is}
use Rattle.message_queue.proofs.cells.Cells.take.Goals as goal

pub index-cell-requires : goal.index-cell-requires
index-cell-requires c =
    let lt = (take_places c.args.self.now c.args.place c.requires.sound c.requires.first).0 in
    omega arith

pub link-requires-clause-before : goal.link-requires-clause-before
link-requires-clause-before c =
    let places = take_places c.args.self.now c.args.place c.requires.sound c.requires.first in
    let is = prev_read c.args.self.now.cells.items c.args.place c.index-cell.result.now places.0 c.index-cell.ensures in
    let lt = places.1 in
    omega arith

pub link-requires-clause-after : goal.link-requires-clause-after
link-requires-clause-after c =
    let places = take_places c.args.self.now c.args.place c.requires.sound c.requires.first in
    let is = next_read c.args.self.now.cells.items c.args.place c.index-cell.result.now places.0 c.index-cell.ensures in
    let lt = places.2 in
    omega arith

pub set_free-requires : goal.set_free-requires
set_free-requires c =
    let lt = (take_places c.args.self.now c.args.place c.requires.sound c.requires.first).0 in
    record { place = omega arith }

pub overflow_sub-self : goal.overflow_sub-self
overflow_sub-self c =
    let count = take_count c.args.self.now c.args.place c.requires.sound c.requires.first in
    omega arith

pub returns-clause-message : goal.returns-clause-message
returns-clause-message c =
    let lt = (take_places c.args.self.now c.args.place c.requires.sound c.requires.first).0 in
    held_read c.args.self.now.cells.items c.args.place c.index-cell.result.now lt c.index-cell.ensures

pub returns-clause-len : goal.returns-clause-len
returns-clause-len c =
    let count = take_count c.args.self.now c.args.place c.requires.sound c.requires.first in
    omega arith

taken : (c : goal.After-self-2-1) (f : IsFirst c.args.self.now c.args.place) → IsSound (record { cells = c.set_free.new.cells; first = set c.args.self.now.first c.number.result c.index-cell.result.now.same; last = c.args.self.now.last; free = c.args.place; len = c.args.self.now.len - 1 }) × (waiting_in (record { cells = c.set_free.new.cells; first = set c.args.self.now.first c.number.result c.index-cell.result.now.same; last = c.args.self.now.last; free = c.args.place; len = c.args.self.now.len - 1 }) ≡ waiting_at c.args.self.now (f.before ++ f.after))
taken c f =
    let old = c.args.self.now in
    let o = c.args.place in
    let x = c.index-cell.result.now in
    let c0 = columns_of old.cells.items in
    let lt = (take_places old o c.requires.sound f).0 in
    let count = take_count old o c.requires.sound f in
    let prev = prev_read old.cells.items o x lt c.index-cell.ensures in
    let next = next_read old.cells.items o x lt c.index-cell.ensures in
    let same = same_read old.cells.items o x lt c.index-cell.ensures in
    let held = ap (λ (w : Waiting). w.priority) (held_read old.cells.items o x lt c.index-cell.ensures) in
    let e : c.number.result ≡ (held_at c0.held o).priority = c.number.ensures.value ∙ sym held in
    let written : columns_of c.set_free.new.cells.items ≡ taken_out c0 o old.free =
    c.set_free.ensures.columns
    ∙ ap (λ (k : Columns). with_next k o old.free) (c.link.ensures.columns ∙ ap (λ (k : ℕ). with_link c0 k x.next) (sym prev) ∙ ap (λ (k : ℕ). with_link c0 (at c0.prev o) k) (sym next)) in
    take_sound old o c.requires.sound f (record { cells = c.set_free.new.cells; first = set old.first c.number.result x.same; last = old.last; free = o; len = old.len - 1 })
    (omega arith)
    written
    (ap (λ (k : ℕ). set old.first k x.same) e ∙ ap (set old.first (held_at c0.held o).priority) (sym same))
    refl
    refl
    (omega arith)
    (omega arith)

pub returns-clause-sound : goal.returns-clause-sound
returns-clause-sound c = (taken c c.requires.first).0

pub returns-clause-rest : goal.returns-clause-rest
returns-clause-rest c =
    let f = c.requires.first in
    let old = c.args.self.now in
    (taken c f).1 ∙ ap (waiting_at old) (sym (without_place-is (order_of old) f.before c.args.place f.after f.split (Differ-left (order_of old) (spare_of old) c.requires.sound.are_linked.differ.1)))
