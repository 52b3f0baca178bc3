use Rattle.std.proofs.Common.{◌≡◌, ◌∙◌, ap, sym, refl, arith, ◌+◌, ◌%◌, ◌∷◌, ℕ, List, subst, Some}
use Rattle.atomic_table.specs.Table.{rest}
use Rattle.shared_words.specs.declared.view.Staged.{Staged}
use Rattle.shared_words.specs.declared.view.View.TheVariants.{Live}
use Rattle.shared_words.specs.Change.{writing, len_in, IsStored}
use Rattle.shared_words.specs.Slots.{Slot, front_value}
use Rattle.shared_words.specs.Kinds.{Seated}
use Rattle.shared_words.specs.Shown.{TableShown}
use Rattle.shared_words.specs.Way.{way_of}
use Rattle.shared_words.specs.HalfHolds.{HalfHolds}
use Rattle.shared_words.proofs.Steps.{allows_publish}
use Rattle.shared_words.proofs.HalfLemmas.{meets, seated, shown_after, half_writes, size_here}
use Rattle.shared_words.proofs.table.RingTable.publish.Goals as goal

pub exchange-empty-requires : goal.exchange-empty-requires
exchange-empty-requires c = let t = c.self.inside in let h = c.half.inside in let me = c.args.half.now in let b = c.args.buffer in let slots = h.seat.me.1 in
    let m = meets c.args.role t h c.args.self.now me c.self.invariant.0 c.self.view_is c.half.invariant c.half.view_is c.requires.half in
    (m.same, (front_value slots, subst (λ (n : ℕ). slots ≡ (n, front_value slots) ∷ rest slots) (sym c.number-id.ensures) (m.holds.front b.number (subst (λ (x : Staged). IsStored x b.number) (sym c.requires.stored) refl))))

pub store-requires : goal.store-requires
store-requires c = let t = c.self.inside in let h = c.half.inside in let me = c.args.half.now in let b = c.args.buffer in let key = t.board.shared.key in let seat = c.exchange-empty.new.seat in
    let m = meets c.args.role t h c.args.self.now me c.self.invariant.0 c.self.view_is c.half.invariant c.half.view_is c.requires.half in
    let live : seat.me.0 ≡ Live c.args.role me.view = ap (λ (x : Seated). x.0) c.exchange-empty.ensures.3 ∙ m.live in
    let carried : seat.me.1 ≡ (b.number, Some b) ∷ rest h.seat.me.1 = ap (λ (x : Seated). x.1) c.exchange-empty.ensures.3 ∙ ap (λ (n : ℕ). (n, Some b) ∷ rest h.seat.me.1) c.number-id.ensures in
    let within = c.idx_word-word.ensures.within in let sized = size_here c.args.role t h me.view m c.args.self.now c.self.view_is in let words = m.words in let count = m.holds.written_count in (
      c.exchange-empty.ensures.0 ∙ m.same,
      omega (arith, within, sized, words),
      allows_publish c.args.role key t.board.shared.table_id.slots seat.id c.idx_word-word.result ((h.written + 1) % 65536) (len_in me.view.staged) seat.me me.view b (rest h.seat.me.1) live c.requires.stored (c.requires.bytes ∙ (sym (ap (λ (x : TableShown). x.ring.width) c.self.view_is) ∙ sym m.width)) (omega (arith, count)) carried (c.idx_word-word.ensures.word ∙ ap (λ (z : ℕ). (way_of c.args.role z).idx) sized),
    )

pub invariant_of-half : goal.invariant_of-half
invariant_of-half c = let t = c.self.inside in let h = c.half.inside in let me = c.args.half.now in let b = c.args.buffer in let z = t.board.shared.key.size in let seat = c.exchange-empty.new.seat in let w = writing (b, len_in me.view.staged) me.view in
    let m = meets c.args.role t h c.args.self.now me c.self.invariant.0 c.self.view_is c.half.invariant c.half.view_is c.requires.half in
    let live : seat.me.0 ≡ Live c.args.role me.view = ap (λ (x : Seated). x.0) c.exchange-empty.ensures.3 ∙ m.live in
    let carried : seat.me.1 ≡ (b.number, Some b) ∷ rest h.seat.me.1 = ap (λ (x : Seated). x.1) c.exchange-empty.ensures.3 ∙ ap (λ (n : ℕ). (n, Some b) ∷ rest h.seat.me.1) c.number-id.ensures in
    let told = c.store.ensures.2 c.args.role me.view b (len_in me.view.staged) (rest h.seat.me.1) live c.requires.stored carried in
    seated c.args.role t h me m w c.store.new.seat.table_id c.store.new.seat.me ((h.written + 1) % 65536) h.taken h.read (c.store.ensures.0 ∙ c.exchange-empty.ensures.0) told.0
    (subst (λ (l : List Slot). HalfHolds z c.args.role w l ((h.written + 1) % 65536) h.taken h.read) (sym told.1)
    (half_writes z c.args.role me.view h.seat.me.1 h.written h.taken h.read m.holds (b, len_in me.view.staged) (subst (λ (x : Staged). IsStored x b.number) (sym c.requires.stored) refl)))

pub returns : goal.returns
returns c = let t = c.self.inside in let h = c.half.inside in let me = c.args.half.now in let b = c.args.buffer in let seat = c.exchange-empty.new.seat in let w = writing (b, len_in me.view.staged) me.view in
    let m = meets c.args.role t h c.args.self.now me c.self.invariant.0 c.self.view_is c.half.invariant c.half.view_is c.requires.half in
    let live : seat.me.0 ≡ Live c.args.role me.view = ap (λ (x : Seated). x.0) c.exchange-empty.ensures.3 ∙ m.live in
    let carried : seat.me.1 ≡ (b.number, Some b) ∷ rest h.seat.me.1 = ap (λ (x : Seated). x.1) c.exchange-empty.ensures.3 ∙ ap (λ (n : ℕ). (n, Some b) ∷ rest h.seat.me.1) c.number-id.ensures in
    let told = c.store.ensures.2 c.args.role me.view b (len_in me.view.staged) (rest h.seat.me.1) live c.requires.stored carried in
    shown_after c.args.role t h me m w c.store.new.seat.table_id c.store.new.seat.me c.half.view_is c.requires.half.same_role (c.store.ensures.0 ∙ c.exchange-empty.ensures.0) told.0 refl
