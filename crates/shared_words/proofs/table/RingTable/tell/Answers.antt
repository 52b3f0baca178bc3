use Rattle.std.proofs.Common.{ℕ, ◌≡◌, ◌∙◌, ap, sym, subst, arith, refl, List}
use Rattle.shared_words.specs.declared.view.View.TheVariants.{Note, Told}
use Rattle.shared_words.specs.HalfHolds.{HalfHolds}
use Rattle.shared_words.specs.Kinds.{Seated}
use Rattle.shared_words.specs.Way.{other}
use Rattle.shared_words.specs.Notes.{note_of, with_note, showing_all, NoteFits}
use Rattle.shared_words.proofs.HalfLemmas.{meets, seated, shown_after}
use Rattle.shared_words.proofs.NoteLemmas.{splits_note, joins_note, allows_note_read, other-other, half_showing_all}
use Rattle.shared_words.specs.Slots.{Slot}
use Rattle.shared_words.proofs.table.RingTable.tell.Goals as goal

pub split_seat-note-requires : goal.split_seat-note-requires
split_seat-note-requires c = let t = c.self.inside in let h = c.from.inside in let from = c.args.from.now in let role = from.role in
    let m = meets role t h c.args.self.now from c.self.invariant.0 c.self.view_is c.from.invariant c.from.view_is (record { same_ring = c.requires.rings.0; same_role = refl }) in let words = m.words in (
      m.same,
      omega (arith, words),
      splits_note t.board.shared.key h.seat.id h.seat.me.0 role from.view m.live,
    )

pub join_seat-requires : goal.join_seat-requires
join_seat-requires c = let t = c.self.inside in let h = c.from.inside in let k = c.to.inside in let from = c.args.from.now in let to = c.args.to.now in let e = c.split_seat-note.ensures in
    let m = meets from.role t h c.args.self.now from c.self.invariant.0 c.self.view_is c.from.invariant c.from.view_is (record { same_ring = c.requires.rings.0; same_role = refl }) in
    let n = meets to.role t k c.args.self.now to c.self.invariant.0 c.self.view_is c.to.invariant c.to.view_is (record { same_ring = c.requires.rings.1; same_role = refl }) in
    let w : c.split_seat-note.result.me.0 ≡ Note (other to.role) from.view = ap (λ (x : Seated). x.0) e.4 ∙ (ap note_of m.live ∙ (λ i. Note (other-other to.role from.role c.requires.others i) from.view)) in
    let words = m.words in (
      n.same,
      e.3 ∙ m.same,
      ap (λ (x : Seated). x.1) e.4,
      omega (arith, words),
      joins_note t.board.shared.key k.seat.id c.split_seat-note.result.id k.seat.me.0 c.split_seat-note.result.me.0 to.role to.view from.view n.live w,
    )

pub load-zero-requires : goal.load-zero-requires
load-zero-requires c = let t = c.self.inside in let h = c.from.inside in let k = c.to.inside in let from = c.args.from.now in let to = c.args.to.now in let e = c.split_seat-note.ensures in
    let m = meets from.role t h c.args.self.now from c.self.invariant.0 c.self.view_is c.from.invariant c.from.view_is (record { same_ring = c.requires.rings.0; same_role = refl }) in
    let n = meets to.role t k c.args.self.now to c.self.invariant.0 c.self.view_is c.to.invariant c.to.view_is (record { same_ring = c.requires.rings.1; same_role = refl }) in
    let w : c.split_seat-note.result.me.0 ≡ Note (other to.role) from.view = ap (λ (x : Seated). x.0) e.4 ∙ (ap note_of m.live ∙ (λ i. Note (other-other to.role from.role c.requires.others i) from.view)) in
    let joined : c.join_seat.new.seat.me.0 ≡ Told to.role (showing_all from.view to.view) from.view = ap (λ (x : Seated). x.0) c.join_seat.ensures.2 ∙ (λ i. with_note (n.live i) (w i)) in
    let words = m.words in (
      c.join_seat.ensures.0 ∙ n.same,
      omega (arith, words),
      allows_note_read t.board.shared.key t.board.shared.table_id.slots c.join_seat.new.seat.id c.join_seat.new.seat.me to.role (showing_all from.view to.view) from.view joined m.slots,
    )

pub invariant_of-to : goal.invariant_of-to
invariant_of-to c = let t = c.self.inside in let h = c.from.inside in let k = c.to.inside in let from = c.args.from.now in let to = c.args.to.now in let e = c.split_seat-note.ensures in
    let m = meets from.role t h c.args.self.now from c.self.invariant.0 c.self.view_is c.from.invariant c.from.view_is (record { same_ring = c.requires.rings.0; same_role = refl }) in
    let n = meets to.role t k c.args.self.now to c.self.invariant.0 c.self.view_is c.to.invariant c.to.view_is (record { same_ring = c.requires.rings.1; same_role = refl }) in
    let w : c.split_seat-note.result.me.0 ≡ Note (other to.role) from.view = ap (λ (x : Seated). x.0) e.4 ∙ (ap note_of m.live ∙ (λ i. Note (other-other to.role from.role c.requires.others i) from.view)) in
    let joined : c.join_seat.new.seat.me.0 ≡ Told to.role (showing_all from.view to.view) from.view = ap (λ (x : Seated). x.0) c.join_seat.ensures.2 ∙ (λ i. with_note (n.live i) (w i)) in
    let l = c.load-zero.ensures in let told = l.2 to.role (showing_all from.view to.view) from.view joined in
    let slots = told.1 ∙ ap (λ (x : Seated). x.1) c.join_seat.ensures.2 in
    seated to.role t k to n (showing_all from.view to.view) c.load-zero.new.seat.table_id c.load-zero.new.seat.me k.written k.taken k.read (l.0 ∙ c.join_seat.ensures.0) told.0
    (subst (λ (x : List Slot). HalfHolds t.board.shared.key.size to.role (showing_all from.view to.view) x k.written k.taken k.read) (sym slots) (half_showing_all t.board.shared.key.size to.role to.view from.view k.seat.me.1 k.written k.taken k.read n.holds))

pub returns-clause-to : goal.returns-clause-to
returns-clause-to c = let t = c.self.inside in let h = c.from.inside in let k = c.to.inside in let from = c.args.from.now in let to = c.args.to.now in let e = c.split_seat-note.ensures in
    let m = meets from.role t h c.args.self.now from c.self.invariant.0 c.self.view_is c.from.invariant c.from.view_is (record { same_ring = c.requires.rings.0; same_role = refl }) in
    let n = meets to.role t k c.args.self.now to c.self.invariant.0 c.self.view_is c.to.invariant c.to.view_is (record { same_ring = c.requires.rings.1; same_role = refl }) in
    let w : c.split_seat-note.result.me.0 ≡ Note (other to.role) from.view = ap (λ (x : Seated). x.0) e.4 ∙ (ap note_of m.live ∙ (λ i. Note (other-other to.role from.role c.requires.others i) from.view)) in
    let joined : c.join_seat.new.seat.me.0 ≡ Told to.role (showing_all from.view to.view) from.view = ap (λ (x : Seated). x.0) c.join_seat.ensures.2 ∙ (λ i. with_note (n.live i) (w i)) in
    let l = c.load-zero.ensures in let told = l.2 to.role (showing_all from.view to.view) from.view joined in
    shown_after to.role t k to n (showing_all from.view to.view) c.load-zero.new.seat.table_id c.load-zero.new.seat.me c.to.view_is refl (l.0 ∙ c.join_seat.ensures.0) told.0 refl

pub returns-clause-fits : goal.returns-clause-fits
returns-clause-fits c = let t = c.self.inside in let h = c.from.inside in let k = c.to.inside in let from = c.args.from.now in let to = c.args.to.now in let e = c.split_seat-note.ensures in
    let m = meets from.role t h c.args.self.now from c.self.invariant.0 c.self.view_is c.from.invariant c.from.view_is (record { same_ring = c.requires.rings.0; same_role = refl }) in
    let n = meets to.role t k c.args.self.now to c.self.invariant.0 c.self.view_is c.to.invariant c.to.view_is (record { same_ring = c.requires.rings.1; same_role = refl }) in
    let w : c.split_seat-note.result.me.0 ≡ Note (other to.role) from.view = ap (λ (x : Seated). x.0) e.4 ∙ (ap note_of m.live ∙ (λ i. Note (other-other to.role from.role c.requires.others i) from.view)) in
    let joined : c.join_seat.new.seat.me.0 ≡ Told to.role (showing_all from.view to.view) from.view = ap (λ (x : Seated). x.0) c.join_seat.ensures.2 ∙ (λ i. with_note (n.live i) (w i)) in
    let l = c.load-zero.ensures in let t2 = l.2 to.role (showing_all from.view to.view) from.view joined in let size = ap (λ (x : Rattle.shared_words.specs.Shown.TableShown). x.ring.table.slots) c.self.view_is in
    subst (λ (z : ℕ). NoteFits to.role z from.view to.view) size (record { taken = t2.2.taken; shown = t2.2.shown; fits = t2.2.fits; room = t2.2.room })
