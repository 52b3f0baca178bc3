use Rattle.std.proofs.Common.{◌≡◌, ap, sym, refl, arith, ◌+◌, ◌*◌, ◌%◌, length, List, subst}
use Rattle.shared_words.specs.Shown.{TableShown}
use Rattle.shared_words.specs.declared.view.Role.TheVariants.{Device}
use Rattle.shared_words.specs.declared.view.Staged.TheVariants.{BothStored}
use Rattle.shared_words.specs.declared.view.Staged.{Staged}
use Rattle.shared_words.specs.Change.{staging, number_in, IsStored}
use Rattle.shared_words.specs.Slots.{Slot}
use Rattle.shared_words.specs.HalfHolds.{HalfHolds}
use Rattle.shared_words.proofs.Steps.{allows_used_len}
use Rattle.shared_words.proofs.HalfLemmas.{meets, seated, shown_after, staged_more, place_here}
use Rattle.shared_words.proofs.table.RingTable.put_used_len.Goals as goal

pub store-requires : goal.store-requires
store-requires c = let t = c.self.inside in let h = c.half.inside in let me = c.args.half.now in let key = t.board.shared.key in
    let m = meets Device t h c.args.self.now me c.self.invariant.0 c.self.view_is c.half.invariant c.half.view_is c.requires.device in
    let within = c.word_of-word.ensures.within in let size = m.size in let words = m.words in
    let place = place_here Device t h me m c.args.self.now c.self.view_is h.written (length me.view.written) m.holds.written_count in
    let brief = ap (λ (x : TableShown). x.ring.width) c.self.view_is in let fits = c.requires.fits in
    let word : c.word_of-word.result ≡ 5 * key.size + 5 + 2 * (length me.view.written % key.size) = (let w = c.word_of-word.ensures.word in let p = c.place.ensures in omega (arith, w, p, place, size)) in (
      m.same,
      omega (arith, within, size, words),
      allows_used_len key t.board.shared.table_id.slots h.seat.id c.word_of-word.result (number_in me.view.staged) c.args.len h.seat.me me.view m.live c.requires.stored (omega (arith, brief, fits)) word,
    )

pub invariant_of-half : goal.invariant_of-half
invariant_of-half c = let t = c.self.inside in let h = c.half.inside in let me = c.args.half.now in let z = t.board.shared.key.size in let n = number_in me.view.staged in let st = BothStored n c.args.len in
    let m = meets Device t h c.args.self.now me c.self.invariant.0 c.self.view_is c.half.invariant c.half.view_is c.requires.device in
    let told = c.store.ensures.2 me.view n m.live c.requires.stored in
    seated Device t h me m (staging st me.view) c.store.new.seat.table_id c.store.new.seat.me h.written h.taken h.read c.store.ensures.0 told.0
    (subst (λ (l : List Slot). HalfHolds z Device (staging st me.view) l h.written h.taken h.read) (sym told.1)
    (staged_more z Device me.view h.seat.me.1 h.written h.taken h.read m.holds n st (subst (λ (x : Staged). IsStored x n) (sym c.requires.stored) refl) (λ k e. e) (λ k e. cc)))

pub returns : goal.returns
returns c = let t = c.self.inside in let h = c.half.inside in let me = c.args.half.now in let n = number_in me.view.staged in let st = BothStored n c.args.len in
    let m = meets Device t h c.args.self.now me c.self.invariant.0 c.self.view_is c.half.invariant c.half.view_is c.requires.device in
    let told = c.store.ensures.2 me.view n m.live c.requires.stored in
    shown_after Device t h me m (staging st me.view) c.store.new.seat.table_id c.store.new.seat.me c.half.view_is c.requires.device.same_role c.store.ensures.0 told.0 refl
