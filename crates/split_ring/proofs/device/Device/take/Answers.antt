use Rattle.std.proofs.Common.{◌∙◌, ap, sym, subst}
use Rattle.shared_words.specs.declared.view.Role.TheVariants as role
use Rattle.shared_words.specs.Entry.{Entry}
use Rattle.shared_words.specs.Shown.{RingId, TableShown}
use Rattle.split_ring.specs.Ends.{End, IsLeft}
use Rattle.split_ring.specs.Kept.{IsKept}
use Rattle.split_ring.specs.declared.counts.Counts.{Counts}
use Rattle.split_ring.proofs.EndLemmas.{half_takes}
use Rattle.split_ring.proofs.device.Device.take.Goals as goal

pub invariant_of-self : goal.invariant_of-self
invariant_of-self c = let h = c.self.inside.half in let e : Entry = (c.fetch_len-entry.result.0, c.fetch_len-entry.result.1) in
    let t = half_takes role.Device e h c.read_avail-id.new.half c.fetch_len-entry.new.half c.on.inside.table c.args.on.now c.self.inside.counts c.self.inside.held.items c.read_avail-id.result c.self.invariant.0 c.self.invariant.1 (subst IsLeft (sym c.self.view_is) c.requires.left)
    c.on.view_is (ap (λ (x : End). x.ring) c.self.view_is ∙ c.requires.ring) c.read_avail-id.ensures.view c.read_avail-id.ensures.below c.fetch_len-entry.ensures.view c.fetch_len-entry.ensures.number c.fetch_len-entry.ensures.not_held in
    (subst (λ (x : Counts). IsKept role.Device c.fetch_len-entry.new.half x) (sym c.take.ensures) t.is_kept, t.has_flags)

pub returns-clause-sound : goal.returns-clause-sound
returns-clause-sound c = let h = c.self.inside.half in let e : Entry = (c.fetch_len-entry.result.0, c.fetch_len-entry.result.1) in
    let t = half_takes role.Device e h c.read_avail-id.new.half c.fetch_len-entry.new.half c.on.inside.table c.args.on.now c.self.inside.counts c.self.inside.held.items c.read_avail-id.result c.self.invariant.0 c.self.invariant.1 (subst IsLeft (sym c.self.view_is) c.requires.left)
    c.on.view_is (ap (λ (x : End). x.ring) c.self.view_is ∙ c.requires.ring) c.read_avail-id.ensures.view c.read_avail-id.ensures.below c.fetch_len-entry.ensures.view c.fetch_len-entry.ensures.number c.fetch_len-entry.ensures.not_held in
    t.is_kept.sound

pub returns-clause-held : goal.returns-clause-held
returns-clause-held c = let h = c.self.inside.half in let e : Entry = (c.fetch_len-entry.result.0, c.fetch_len-entry.result.1) in
    let t = half_takes role.Device e h c.read_avail-id.new.half c.fetch_len-entry.new.half c.on.inside.table c.args.on.now c.self.inside.counts c.self.inside.held.items c.read_avail-id.result c.self.invariant.0 c.self.invariant.1 (subst IsLeft (sym c.self.view_is) c.requires.left)
    c.on.view_is (ap (λ (x : End). x.ring) c.self.view_is ∙ c.requires.ring) c.read_avail-id.ensures.view c.read_avail-id.ensures.below c.fetch_len-entry.ensures.view c.fetch_len-entry.ensures.number c.fetch_len-entry.ensures.not_held in
    (t.is_held, c.fetch_len-entry.ensures.bytes ∙ (ap (λ (x : TableShown). x.ring.width) c.on.view_is ∙ ap (λ (r : RingId). r.width) (sym (t.same_ring ∙ (ap (λ (x : End). x.ring) c.self.view_is ∙ c.requires.ring)))))
