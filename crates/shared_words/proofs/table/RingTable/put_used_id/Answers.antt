use Rattle.std.proofs.Common.{◌≡◌, sym, refl, arith, ◌+◌, ◌*◌, ◌%◌, length, List, subst}
use Rattle.shared_words.specs.declared.view.Role.TheVariants.{Device}
use Rattle.shared_words.specs.declared.view.Staged.TheVariants.{NumberStored}
use Rattle.shared_words.specs.Change.{staging}
use Rattle.shared_words.specs.Slots.{Slot}
use Rattle.shared_words.specs.HalfHolds.{HalfHolds}
use Rattle.shared_words.proofs.Steps.{allows_used_id}
use Rattle.shared_words.proofs.HalfLemmas.{meets, seated, shown_after, holds_here, place_here, staged_front}
use Rattle.shared_words.proofs.table.RingTable.put_used_id.Goals as goal

pub store-requires : goal.store-requires
store-requires c = let t = c.self.inside in let h = c.half.inside in let me = c.args.half.now in let key = t.board.shared.key in let slots = t.board.shared.table_id.slots in
    let m = meets Device t h c.args.self.now me c.self.invariant.0 c.self.view_is c.half.invariant c.half.view_is c.requires.device in
    let held = holds_here Device t h me m c.args.id c.half.view_is c.requires.device.same_role c.requires.holds in
    let within = c.word_of-word.ensures.within in let size = m.size in let words = m.words in
    let place = place_here Device t h me m c.args.self.now c.self.view_is h.written (length me.view.written) m.holds.written_count in
    let word : c.word_of-word.result ≡ 5 * key.size + 4 + 2 * (length me.view.written % key.size) = (let w = c.word_of-word.ensures.word in let p = c.place.ensures in omega (arith, w, p, place, size)) in (
      m.same,
      omega (arith, within, size, words),
      allows_used_id key slots h.seat.id c.word_of-word.result c.args.id h.written h.taken h.read h.seat.me me.view m.live m.slots m.holds held c.requires.idle word,
    )

pub invariant_of-half : goal.invariant_of-half
invariant_of-half c = let t = c.self.inside in let h = c.half.inside in let me = c.args.half.now in let z = t.board.shared.key.size in let st = NumberStored c.args.id in
    let m = meets Device t h c.args.self.now me c.self.invariant.0 c.self.view_is c.half.invariant c.half.view_is c.requires.device in
    let held = holds_here Device t h me m c.args.id c.half.view_is c.requires.device.same_role c.requires.holds in
    let told = c.store.ensures.2 me.view m.live in
    seated Device t h me m (staging st me.view) c.store.new.seat.table_id c.store.new.seat.me h.written h.taken h.read c.store.ensures.0 told.0
    (subst (λ (l : List Slot). HalfHolds z Device (staging st me.view) l h.written h.taken h.read) (sym told.1) (staged_front z Device me.view h.seat.me.1 h.written h.taken h.read m.holds c.args.id st held (λ k e. e) (λ k e. cc)))

pub returns : goal.returns
returns c = let t = c.self.inside in let h = c.half.inside in let me = c.args.half.now in let st = NumberStored c.args.id in
    let m = meets Device t h c.args.self.now me c.self.invariant.0 c.self.view_is c.half.invariant c.half.view_is c.requires.device in
    let told = c.store.ensures.2 me.view m.live in
    shown_after Device t h me m (staging st me.view) c.store.new.seat.table_id c.store.new.seat.me c.half.view_is c.requires.device.same_role c.store.ensures.0 told.0 refl
