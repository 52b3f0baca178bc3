use Rattle.std.proofs.Common.{◌≡◌, ◌≢◌, ℕ, ◌+◌, ◌∷◌, [], ◌++◌, ◌∙◌, ap, sym, subst, arith, set}
use Rattle.message_queue.specs.Linked.{at}
use Rattle.message_queue.specs.Cells.{Columns, columns_of, with_link, with_held, with_same, waiting_of, waiting_in, IsSound}
use Rattle.message_queue.proofs.CellLists.{with_newest}
use Rattle.message_queue.proofs.CellReads.{prev_read, next_read}
use Rattle.message_queue.proofs.SoundCells.{append_places, append_last, append_sound}
use Rattle.message_queue.proofs.cells.Cells.append.Goals as goal

pub index-requires-2 : goal.index-requires-2
index-requires-2 c =
    let lt = (append_places c.args.self.now (waiting_of c.args.entry) c.requires.sound c.requires.room).0 in
    omega arith

pub link-requires-clause-before : goal.link-requires-clause-before
link-requires-clause-before c =
    let within = c.requires.sound.within in
    let is = prev_read c.args.self.now.cells.items 0 c.index.result.now (omega arith) c.index.ensures in
    let lt = (append_places c.args.self.now (waiting_of c.args.entry) c.requires.sound c.requires.room).1 in
    omega arith

pub link-requires-clause-after : goal.link-requires-clause-after
link-requires-clause-after c = (append_places c.args.self.now (waiting_of c.args.entry) c.requires.sound c.requires.room).0

pub link-requires-2-clause-before : goal.link-requires-2-clause-before
link-requires-2-clause-before c =
    let lt = (append_places c.args.self.now (waiting_of c.args.entry) c.requires.sound c.requires.room).0 in
    omega arith

pub fill-requires : goal.fill-requires
fill-requires c =
    let lt = (append_places c.args.self.now (waiting_of c.args.entry) c.requires.sound c.requires.room).0 in
    record { place = omega arith }

pub put_newest-requires-clause-last : goal.put_newest-requires-clause-last
put_newest-requires-clause-last c some =
    let e : c.number-of.result ≡ c.args.entry.priority = c.number-of.ensures.value in
    let lt = append_last c.args.self.now (waiting_of c.args.entry) c.requires.sound c.requires.room (subst (λ (k : ℕ). at c.args.self.now.first k ≢ 0) e some) in
    let same : at c.args.self.now.last c.number-of.result ≡ at c.args.self.now.last c.args.entry.priority = ap (at c.args.self.now.last) e in
    omega arith

sound : (c : goal.After-self-2-1) → IsSound (record { cells = c.put_newest.new.self.cells; first = c.put_newest.new.self.first; last = c.put_newest.new.self.last; free = c.put_newest.new.self.free; len = c.put_newest.new.self.len + 1 }) × (waiting_in (record { cells = c.put_newest.new.self.cells; first = c.put_newest.new.self.first; last = c.put_newest.new.self.last; free = c.put_newest.new.self.free; len = c.put_newest.new.self.len + 1 }) ≡ waiting_in c.args.self.now ++ waiting_of c.args.entry ∷ [])
sound c =
    let old = c.args.self.now in
    let f = old.free in
    let w = waiting_of c.args.entry in
    let c0 = columns_of old.cells.items in
    let e : c.number-of.result ≡ c.args.entry.priority = c.number-of.ensures.value in
    let lt = (append_places old w c.requires.sound c.requires.room).0 in
    let newest : at c0.prev 0 ≡ c.index.result.now.prev = prev_read old.cells.items 0 c.index.result.now (omega arith) c.index.ensures in
    let next : at c0.next f ≡ c.index-2.result.now.next = next_read old.cells.items f c.index-2.result.now lt c.index-2.ensures in
    let filled : columns_of c.fill.new.cells.items ≡ with_newest c0 f w =
    c.fill.ensures.columns
    ∙ ap (λ (k : Columns). with_held k f w) (c.link-2.ensures.columns ∙ ap (λ (k : Columns). with_link k f 0) c.link.ensures.columns)
    ∙ ap (λ (k : ℕ). with_held (with_link (with_link c0 k f) f 0) f w) (sym newest) in
    append_sound old w c.requires.sound c.requires.room (record { cells = c.put_newest.new.self.cells; first = c.put_newest.new.self.first; last = c.put_newest.new.self.last; free = c.put_newest.new.self.free; len = c.put_newest.new.self.len + 1 })
    (omega arith)
    (omega arith)
    (c.put_newest.ensures.last ∙ ap (λ (k : ℕ). set old.last k f) e)
    (c.put_newest.ensures.others.0 ∙ sym next)
    (ap (λ (n : ℕ). n + 1) c.put_newest.ensures.others.1)
    (omega arith)
    (λ none. let at_of = subst (λ (k : ℕ). at old.first k ≡ 0) (sym e) none in (c.put_newest.ensures.alone at_of ∙ filled, c.put_newest.ensures.oldest at_of ∙ ap (λ (k : ℕ). set old.first k f) e))
    (λ some. let at_of = subst (λ (k : ℕ). at old.first k ≢ 0) (sym e) some in (c.put_newest.ensures.behind at_of ∙ ap (λ (k : Columns). with_same k (at old.last c.number-of.result) f) filled ∙ ap (λ (k : ℕ). with_same (with_newest c0 f w) (at old.last k) f) e, c.put_newest.ensures.first at_of))

pub returns-clause-sound : goal.returns-clause-sound
returns-clause-sound c = (sound c).0

pub returns-clause-waiting : goal.returns-clause-waiting
returns-clause-waiting c = (sound c).1
