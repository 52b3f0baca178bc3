use Rattle.std.proofs.Common.{◌≡◌, ◌∙◌, ap, sym, refl, arith, ◌∷◌, length, List, Some}
use Rattle.atomic_table.specs.Table.{rest}
use Rattle.mc_base.specs.Stored.{Stored}
use Rattle.shared_words.specs.declared.view.Staged.TheVariants.{NumberRead}
use Rattle.shared_words.specs.declared.view.View.TheVariants.{Live}
use Rattle.shared_words.specs.Change.{taking, number_in}
use Rattle.shared_words.specs.Slots.{Slot}
use Rattle.shared_words.specs.Kinds.{Seated}
use Rattle.shared_words.specs.Shown.{TableShown, size_of}
use Rattle.shared_words.specs.Way.{way_of, other}
use Rattle.shared_words.specs.declared.view.Role.{Role}
use Rattle.shared_words.proofs.Steps.{allows_take}
use Rattle.shared_words.proofs.HalfLemmas.{meets, size_here, len_place_here, read_low, shown_after, gets, got_buffer, not_held, emptied}
use Rattle.shared_words.proofs.table.RingTable.take.Goals as goal

pub len_word-word-requires : goal.len_word-word-requires
len_word-word-requires c = read_low c.args.role c.half.inside c.args.self.now c.args.half.now c.half.invariant c.half.view_is c.requires.half c.requires.read

pub load-len-requires : goal.load-len-requires
load-len-requires c = let t = c.self.inside in let h = c.half.inside in let me = c.args.half.now in let key = t.board.shared.key in
    let m = meets c.args.role t h c.args.self.now me c.self.invariant.0 c.self.view_is c.half.invariant c.half.view_is c.requires.half in
    let within = c.len_word-word.ensures.within in let sized = size_here c.args.role t h me.view m c.args.self.now c.self.view_is in let words = m.words in let n = m.holds.number_read (number_in me.view.staged) c.requires.read in
    let word = c.len_word-word.ensures.word ∙ (ap (λ (r : Role). (way_of r (size_of c.args.self.now.ring)).len ((way_of r (size_of c.args.self.now.ring)).len_place h.taken h.read)) c.other.ensures
    ∙ len_place_here (other c.args.role) key.size (size_of c.args.self.now.ring) h.taken (length me.view.taken) h.read m.shape.size sized m.holds.taken_count) in (
      m.same,
      omega (arith, within, sized, words),
      allows_take c.args.role key t.board.shared.table_id.slots h.seat.id c.len_word-word.result h.read h.seat.me me.view m.live (c.requires.read ∙ ap NumberRead (sym n.0)) m.slots word,
    )

pub overflow_cast-len : goal.overflow_cast-len
overflow_cast-len c = let t = c.self.inside in let h = c.half.inside in let me = c.args.half.now in
    let m = meets c.args.role t h c.args.self.now me c.self.invariant.0 c.self.view_is c.half.invariant c.half.view_is c.requires.half in
    let g = gets c.args.role t h me c.load-len.new.seat.me c.len_word-word.result c.load-len.result m c.requires.read c.load-len.ensures.2 in let f = g.fits in let l = m.shape.length in record { fits = omega (arith, f, l) }

pub exchange-got-requires : goal.exchange-got-requires
exchange-got-requires c = let t = c.self.inside in let h = c.half.inside in let me = c.args.half.now in
    let m = meets c.args.role t h c.args.self.now me c.self.invariant.0 c.self.view_is c.half.invariant c.half.view_is c.requires.half in
    let g = gets c.args.role t h me c.load-len.new.seat.me c.len_word-word.result c.load-len.result m c.requires.read c.load-len.ensures.2 in
    (c.load-len.ensures.0 ∙ m.same, (Some g.buffer, g.carried ∙ ap (λ (l : List Slot). (h.read, Some g.buffer) ∷ l) (sym (ap rest g.carried))))

pub unreachable-requires : goal.unreachable-requires
unreachable-requires c = let t = c.self.inside in let h = c.half.inside in let me = c.args.half.now in
    let m = meets c.args.role t h c.args.self.now me c.self.invariant.0 c.self.view_is c.half.invariant c.half.view_is c.requires.half in
    let g = gets c.args.role t h me c.load-len.new.seat.me c.len_word-word.result c.load-len.result m c.requires.read c.load-len.ensures.2 in
    c.in_default.not-Some g.buffer (got_buffer h.read g.buffer c.exchange-got.result c.load-len.new.seat.me.1 h.seat.me.1 c.exchange-got.ensures.2 g.carried)

pub invariant_of-half : goal.invariant_of-half
invariant_of-half c = let t = c.self.inside in let h = c.half.inside in let me = c.args.half.now in
    let m = meets c.args.role t h c.args.self.now me c.self.invariant.0 c.self.view_is c.half.invariant c.half.view_is c.requires.half in
    let g = gets c.args.role t h me c.load-len.new.seat.me c.len_word-word.result c.load-len.result m c.requires.read c.load-len.ensures.2 in
    emptied c.args.role t h me m c.load-len.new.seat.me c.exchange-got.new.seat.me c.load-len.result c.exchange-got.new.seat.table_id g (c.exchange-got.ensures.0 ∙ c.load-len.ensures.0) c.exchange-got.ensures.3

pub returns-clause-view : goal.returns-clause-view
returns-clause-view c = let t = c.self.inside in let h = c.half.inside in let me = c.args.half.now in
    let m = meets c.args.role t h c.args.self.now me c.self.invariant.0 c.self.view_is c.half.invariant c.half.view_is c.requires.half in
    let g = gets c.args.role t h me c.load-len.new.seat.me c.len_word-word.result c.load-len.result m c.requires.read c.load-len.ensures.2 in
    let some_is : Some c.in-Some.buffer ≡ Some g.buffer = sym c.in-Some.is ∙ got_buffer h.read g.buffer c.exchange-got.result c.load-len.new.seat.me.1 h.seat.me.1 c.exchange-got.ensures.2 g.carried in
    let same : c.in-Some.buffer ≡ g.buffer = cc in
    let live : c.exchange-got.new.seat.me.0 ≡ Live c.args.role (taking (c.in-Some.buffer, c.load-len.result) me.view) = ap (λ (x : Seated). x.0) c.exchange-got.ensures.3 ∙ (g.live ∙ ap (λ (b : Stored). Live c.args.role (taking (b, c.load-len.result) me.view)) (sym same)) in
    shown_after c.args.role t h me m (taking (c.in-Some.buffer, c.load-len.result) me.view) c.exchange-got.new.seat.table_id c.exchange-got.new.seat.me c.half.view_is c.requires.half.same_role (c.exchange-got.ensures.0 ∙ c.load-len.ensures.0) live refl

pub returns-clause-number : goal.returns-clause-number
returns-clause-number c = let t = c.self.inside in let h = c.half.inside in let me = c.args.half.now in
    let m = meets c.args.role t h c.args.self.now me c.self.invariant.0 c.self.view_is c.half.invariant c.half.view_is c.requires.half in
    let g = gets c.args.role t h me c.load-len.new.seat.me c.len_word-word.result c.load-len.result m c.requires.read c.load-len.ensures.2 in
    let some_is : Some c.in-Some.buffer ≡ Some g.buffer = sym c.in-Some.is ∙ got_buffer h.read g.buffer c.exchange-got.result c.load-len.new.seat.me.1 h.seat.me.1 c.exchange-got.ensures.2 g.carried in
    let same : c.in-Some.buffer ≡ g.buffer = cc in ap (λ (b : Stored). b.number) same ∙ (g.number ∙ g.is_read)

pub returns-clause-fits : goal.returns-clause-fits
returns-clause-fits c = let t = c.self.inside in let h = c.half.inside in let me = c.args.half.now in
    let m = meets c.args.role t h c.args.self.now me c.self.invariant.0 c.self.view_is c.half.invariant c.half.view_is c.requires.half in
    let f = (gets c.args.role t h me c.load-len.new.seat.me c.len_word-word.result c.load-len.result m c.requires.read c.load-len.ensures.2).fits in let l = ap (λ (x : TableShown). x.ring.width) c.self.view_is in omega (arith, f, l)

pub returns-clause-not_held : goal.returns-clause-not_held
returns-clause-not_held c = let t = c.self.inside in let h = c.half.inside in let me = c.args.half.now in
    let m = meets c.args.role t h c.args.self.now me c.self.invariant.0 c.self.view_is c.half.invariant c.half.view_is c.requires.half in
    let g = gets c.args.role t h me c.load-len.new.seat.me c.len_word-word.result c.load-len.result m c.requires.read c.load-len.ensures.2 in
    let some_is : Some c.in-Some.buffer ≡ Some g.buffer = sym c.in-Some.is ∙ got_buffer h.read g.buffer c.exchange-got.result c.load-len.new.seat.me.1 h.seat.me.1 c.exchange-got.ensures.2 g.carried in
    let same : c.in-Some.buffer ≡ g.buffer = cc in
    λ held. not_held c.args.role t h me m c.load-len.new.seat.me c.load-len.result g c.in-Some.buffer.number (ap (λ (b : Stored). b.number) same ∙ g.number) c.half.view_is c.requires.half.same_role held

pub returns-clause-bytes : goal.returns-clause-bytes
returns-clause-bytes c = let t = c.self.inside in let h = c.half.inside in let me = c.args.half.now in
    let m = meets c.args.role t h c.args.self.now me c.self.invariant.0 c.self.view_is c.half.invariant c.half.view_is c.requires.half in
    let g = gets c.args.role t h me c.load-len.new.seat.me c.len_word-word.result c.load-len.result m c.requires.read c.load-len.ensures.2 in
    let some_is : Some c.in-Some.buffer ≡ Some g.buffer = sym c.in-Some.is ∙ got_buffer h.read g.buffer c.exchange-got.result c.load-len.new.seat.me.1 h.seat.me.1 c.exchange-got.ensures.2 g.carried in
    let same : c.in-Some.buffer ≡ g.buffer = cc in ap (λ (b : Stored). length b.bytes) same ∙ (g.bytes ∙ ap (λ (x : TableShown). x.ring.width) c.self.view_is)
