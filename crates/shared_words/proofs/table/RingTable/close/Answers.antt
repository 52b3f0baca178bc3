use Rattle.std.proofs.Common.{◌≡◌, ◌∙◌, ap, sym, subst, arith, ℕ, List, Option}
use Rattle.std.specs.Slots.{slots_items}
use Rattle.atomic_table.specs.Table.{Final, Seen}
use Rattle.mc_base.specs.Stored.{Stored}
use Rattle.shared_words.specs.declared.rule.Shape.{Shape}
use Rattle.shared_words.specs.declared.view.Role.TheVariants.{Driver, Device}
use Rattle.shared_words.specs.declared.view.View.{View}
use Rattle.shared_words.specs.RingRule.{RingRule}
use Rattle.shared_words.specs.Parting.{united}
use Rattle.shared_words.specs.Kinds.{Seated}
use Rattle.shared_words.specs.Shown.{TableShown, shape_of}
use Rattle.shared_words.specs.Closed.{IsClosed}
use Rattle.shared_words.proofs.HalfLemmas.{meets}
use Rattle.shared_words.proofs.Ending.{splits_pass, joins_unite, closes}
use Rattle.shared_words.proofs.table.RingTable.close.Goals as goal

pub split_seat-passed-requires : goal.split_seat-passed-requires
split_seat-passed-requires c = let t = c.self.inside in let h = c.device.inside in
    let m = meets Device t h c.args.self c.args.device c.self.invariant.0 c.self.view_is c.device.invariant c.device.view_is c.requires.device in let words = m.words in (
      m.same,
      omega (arith, words),
      splits_pass t.board.shared.key h.seat.id h.seat.me.0 c.args.device.view m.live,
    )

pub join_seat-requires : goal.join_seat-requires
join_seat-requires c = let t = c.self.inside in let h = c.driver.inside in let k = c.device.inside in let e = c.split_seat-passed.ensures in
    let m = meets Driver t h c.args.self c.args.driver c.self.invariant.0 c.self.view_is c.driver.invariant c.driver.view_is c.requires.driver in let words = m.words in
    let n = meets Device t k c.args.self c.args.device c.self.invariant.0 c.self.view_is c.device.invariant c.device.view_is c.requires.device in (
      m.same,
      e.3 ∙ n.same,
      ap (λ (x : Seated). x.1) e.4,
      omega (arith, words),
      joins_unite t.board.shared.key h.seat.id c.split_seat-passed.result.id h.seat.me.0 c.split_seat-passed.result.me.0 c.args.driver.view c.args.device.view m.live (ap (λ (x : Seated). x.0) e.4 ∙ n.live),
    )

pub returns : goal.returns
returns c = let t = c.self.inside in let h = c.driver.inside in let k = c.device.inside in let e = c.split_seat-passed.ensures in let key = t.board.shared.key in let seat = c.join_seat.new.seat in let tab = c.self.invariant.0 in
    let m = meets Driver t h c.args.self c.args.driver c.self.invariant.0 c.self.view_is c.driver.invariant c.driver.view_is c.requires.driver in
    let n = meets Device t k c.args.self c.args.device c.self.invariant.0 c.self.view_is c.device.invariant c.device.view_is c.requires.device in
    let words : List ℕ = slots_items c.close_with-closed.result.words in let home : List (Option Stored) = slots_items c.close_with-closed.result.slots in
    let view : seat.me.0 ≡ united h.seat.me.0 c.split_seat-passed.result.me.0 = ap (λ (x : Seated). x.0) c.join_seat.ensures.2 in
    let shape : key ≡ shape_of c.args.self = λ i. record { queue = (tab.queue_is ∙ ap (λ (x : TableShown). x.queue) c.self.view_is) i; size = (sym tab.slots ∙ ap (λ (x : TableShown). x.ring.table.slots) c.self.view_is) i; length = ap (λ (x : TableShown). x.ring.width) c.self.view_is i } in
    let closed : IsClosed key c.args.driver.view c.args.device.view words home =
    closes key seat.id h.seat.me.0 c.split_seat-passed.result.me.0 c.args.driver.view c.args.device.view words home m.live (ap (λ (x : Seated). x.0) e.4 ∙ n.live) c.requires.idle.0 c.requires.idle.1
    (subst (λ (x : View). Final (Seen (RingRule key) seat.id x) words home) view c.close_with-closed.ensures.values.2) in
    subst (λ (x : Shape × List ℕ × List (Option Stored)). IsClosed x.0 c.args.driver.view c.args.device.view x.1 x.2) (λ i. (shape i, sym c.copy_words-words.ensures i, sym c.take_slots-home.ensures i)) closed
