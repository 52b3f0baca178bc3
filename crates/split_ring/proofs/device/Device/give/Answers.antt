use Rattle.std.proofs.Common.{◌≡◌, ◌∙◌, ◌+◌, ap, sym, subst}
use Rattle.shared_words.specs.declared.view.Role.TheVariants as role
use Rattle.shared_words.specs.declared.view.Staged.TheVariants.{BothStored}
use Rattle.shared_words.specs.Entry.{Entry}
use Rattle.shared_words.specs.Change.{staging, writing, number_in, len_in}
use Rattle.shared_words.specs.Shown.{HalfShown, with_view}
use Rattle.split_ring.specs.Ends.{End, HoldsNumber}
use Rattle.split_ring.proofs.EndLemmas.{counted, half_writes}
use Rattle.split_ring.proofs.device.Device.give.Goals as goal

pub invariant_of-self : goal.invariant_of-self
invariant_of-self c = let h = c.self.inside.half in let b = c.args.buffer in let n = c.number-id.result in let e : Entry = (b, c.args.len) in
    let stored : c.put_used_len.new.half ≡ with_view (counted (h.view.steps + 1 + 1) (staging (BothStored n c.args.len) h.view)) h = c.put_used_len.ensures ∙ ap (λ (x : HalfShown). with_view (staging (BothStored (number_in x.view.staged) c.args.len) x.view) x) c.put_used_id.ensures in
    let is : c.publish_used.new.half ≡ with_view (counted (h.view.steps + 1 + 1 + 1) (writing e h.view)) h = c.publish_used.ensures ∙ ap (λ (x : HalfShown). with_view (writing (b, len_in x.view.staged) x.view) x) stored in
    let w = half_writes role.Device e h c.publish_used.new.half c.self.inside.counts c.self.inside.held.items n (h.view.steps + 1 + 1 + 1) c.self.invariant.0 c.self.invariant.1 (subst (λ (x : End). HoldsNumber role.Device x b.number) (sym c.self.view_is) c.requires.holds.0) c.number-id.ensures is in
    w

pub returns-clause-sound : goal.returns-clause-sound
returns-clause-sound c = let h = c.self.inside.half in let b = c.args.buffer in let n = c.number-id.result in let e : Entry = (b, c.args.len) in
    let stored : c.put_used_len.new.half ≡ with_view (counted (h.view.steps + 1 + 1) (staging (BothStored n c.args.len) h.view)) h = c.put_used_len.ensures ∙ ap (λ (x : HalfShown). with_view (staging (BothStored (number_in x.view.staged) c.args.len) x.view) x) c.put_used_id.ensures in
    let is : c.publish_used.new.half ≡ with_view (counted (h.view.steps + 1 + 1 + 1) (writing e h.view)) h = c.publish_used.ensures ∙ ap (λ (x : HalfShown). with_view (writing (b, len_in x.view.staged) x.view) x) stored in
    let w = half_writes role.Device e h c.publish_used.new.half c.self.inside.counts c.self.inside.held.items n (h.view.steps + 1 + 1 + 1) c.self.invariant.0 c.self.invariant.1 (subst (λ (x : End). HoldsNumber role.Device x b.number) (sym c.self.view_is) c.requires.holds.0) c.number-id.ensures is in
    w.0.sound
