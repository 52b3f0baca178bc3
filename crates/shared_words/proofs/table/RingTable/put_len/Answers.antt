use Rattle.std.proofs.Common.{ap, sym, refl, arith, ℕ, List, subst}
use Rattle.shared_words.specs.Shown.{TableShown}
use mathlib.Core.Option.{none}
use Rattle.atomic_table.specs.Table.{Allows, step}
use Rattle.shared_words.specs.declared.view.Role.TheVariants.{Driver}
use Rattle.shared_words.specs.declared.view.Staged.TheVariants.{LengthStored}
use Rattle.shared_words.specs.Change.{staging}
use Rattle.shared_words.specs.Slots.{Slot}
use Rattle.shared_words.specs.Kinds.{desc_len_stored}
use Rattle.shared_words.specs.HalfHolds.{HalfHolds}
use Rattle.shared_words.specs.RingRule.{RingRule}
use Rattle.shared_words.proofs.Steps.{allows_desc_len}
use Rattle.shared_words.proofs.HalfLemmas.{meets, seated, shown_after, holds_here, held_below, staged_front}
use Rattle.shared_words.proofs.table.RingTable.put_len.Goals as goal

pub word_of-word-requires : goal.word_of-word-requires
word_of-word-requires c = let t = c.self.inside in let h = c.half.inside in let me = c.args.half.now in
    let m = meets Driver t h c.args.self.now me c.self.invariant.0 c.self.view_is c.half.invariant c.half.view_is c.requires.driver in
    let held = holds_here Driver t h me m c.args.id c.half.view_is c.requires.driver.same_role c.requires.holds in
    let low = held_below t.board.shared.key.size Driver me.view h.seat.me.1 h.written h.taken h.read m.holds c.args.id held in let size = m.size in omega (arith, low, size)

pub store-requires : goal.store-requires
store-requires c = let t = c.self.inside in let h = c.half.inside in let me = c.args.half.now in let key = t.board.shared.key in let slots = t.board.shared.table_id.slots in
    let m = meets Driver t h c.args.self.now me c.self.invariant.0 c.self.view_is c.half.invariant c.half.view_is c.requires.driver in
    let held = holds_here Driver t h me m c.args.id c.half.view_is c.requires.driver.same_role c.requires.holds in
    let within = c.word_of-word.ensures.within in let size = m.size in let words = m.words in let brief = ap (λ (x : TableShown). x.ring.width) c.self.view_is in let fits = c.requires.fits in (
      m.same,
      omega (arith, within, size, words),
      subst (λ (i : ℕ). Allows (RingRule key) slots h.seat.id h.seat.me i (λ _. c.args.len) (λ _. desc_len_stored (step slots i c.args.len 0 none) h.seat.me c.args.len)) (sym c.word_of-word.ensures.word)
          (allows_desc_len key slots h.seat.id c.args.id c.args.len h.written h.taken h.read h.seat.me me.view m.live m.slots m.holds held (omega (arith, brief, fits)) c.requires.idle),
    )

pub invariant_of-half : goal.invariant_of-half
invariant_of-half c = let t = c.self.inside in let h = c.half.inside in let me = c.args.half.now in let z = t.board.shared.key.size in let st = LengthStored c.args.id c.args.len in
    let m = meets Driver t h c.args.self.now me c.self.invariant.0 c.self.view_is c.half.invariant c.half.view_is c.requires.driver in
    let held = holds_here Driver t h me m c.args.id c.half.view_is c.requires.driver.same_role c.requires.holds in
    let told = c.store.ensures.2 me.view c.args.id m.live c.word_of-word.ensures.word in
    seated Driver t h me m (staging st me.view) c.store.new.seat.table_id c.store.new.seat.me h.written h.taken h.read c.store.ensures.0 told.0
    (subst (λ (l : List Slot). HalfHolds z Driver (staging st me.view) l h.written h.taken h.read) (sym told.1) (staged_front z Driver me.view h.seat.me.1 h.written h.taken h.read m.holds c.args.id st held (λ k e. e) (λ k e. cc)))

pub returns : goal.returns
returns c = let t = c.self.inside in let h = c.half.inside in let me = c.args.half.now in let st = LengthStored c.args.id c.args.len in
    let m = meets Driver t h c.args.self.now me c.self.invariant.0 c.self.view_is c.half.invariant c.half.view_is c.requires.driver in
    let told = c.store.ensures.2 me.view c.args.id m.live c.word_of-word.ensures.word in
    shown_after Driver t h me m (staging st me.view) c.store.new.seat.table_id c.store.new.seat.me c.half.view_is c.requires.driver.same_role c.store.ensures.0 told.0 refl
