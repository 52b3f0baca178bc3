use Rattle.std.proofs.Common.{◌≡◌, ◌<◌, ◌∙◌, ◌∷◌, [], Some, ap, ap₂, length, sym, subst}
use Rattle.std.specs.Prelude.{option_map, slice_get}
use Rattle.mc_base.specs.declared.request.PacketId.{PacketId}
use Rattle.mc_base.specs.declared.request.Slot.{Slot}
use Rattle.board_model.specs.Choice.{oldest}
use Rattle.message_queue.specs.Queue.{Waiting}
use Rattle.domain_parts.specs.LaneSeen.{LaneSeen}
use Rattle.domain_parts.specs.declared.holdings.Holdings.TheInside.{Inside}
use Rattle.domain_parts.specs.Parts.{Holding, Parts, Sound, holding_in, parts_in, peers_seen}
use Rattle.domain_parts.specs.Records.{Records, slots_at, waiting_in, with_last_lent}
use Rattle.domain_parts.specs.Steps.{Did, done, next_lent, oldest_lent}
use Rattle.domain_parts.proofs.LendingMeaning.{oldest_lent-keeps, room-left}
use Rattle.domain_parts.proofs.Steps.{oldest_dropped-left, oldest_dropped-queued}
use Rattle.domain_parts.proofs.Stepping.{quiet-moved, quiet-peers}
use Rattle.domain_parts.proofs.holdings.Holdings.lend_oldest.Given.{Over}
use Rattle.domain_parts.proofs.holdings.Holdings.lend_oldest.Goals as goal

abbrev v : (g : Over) → (g.row.P.Denot → LaneSeen)
v g = g.P.PeerLane.seen

abbrev p : (g : Over) → Inside g.row.P.Denot → Parts
p g d = parts_in (v g) d.book d.endpoints d.requests d.table d.peers.items

pub lend-packet-requires : goal.lend-packet-requires
lend-packet-requires g c = oldest_dropped-queued (p g c.self.inside) c.self.invariant c.args.place c.unwrap-slot.result (sym c.unwrap-slot.ensures ∙ c.take_oldest.ensures.oldest)

pub keep_lent-requires : goal.keep_lent-requires
keep_lent-requires g c = subst (λ (r : Records). length r.lent < r.room) (sym c.take_oldest.ensures.rest) (room-left (p g c.self.inside) c.self.invariant c.args.place c.unwrap-slot.result (sym c.unwrap-slot.ensures ∙ c.take_oldest.ensures.oldest))

-- the parts after it
first : (g : Over) (c : goal.After-keep_lent g) → Some c.unwrap-slot.result ≡ option_map (λ (w : Waiting). w.slot) (oldest (waiting_in (slice_get c.self.inside.endpoints.endpoints c.args.place)))
first g c = sym c.unwrap-slot.ensures ∙ c.take_oldest.ensures.oldest

after : (g : Over) (c : goal.After-keep_lent g) → parts_in (v g) c.lend-packet.new.self c.keep_lent.new.self c.self.inside.requests c.self.inside.table c.self.inside.peers.items ≡ done (oldest_lent c.args.place (next_lent c.self.inside.book c.unwrap-slot.result)) (p g c.self.inside)
after g c =
    let d = c.self.inside in
    let b = c.lend-packet.ensures.book in
    let r = c.keep_lent.ensures ∙ ap₂ (λ (x : Records) (i : PacketId). with_last_lent x i) c.take_oldest.ensures.rest c.lend-packet.ensures.id in
    let ps = sym (quiet-peers (peers_seen (v g) d.peers.items)) in
    cc

pub invariant_of-self : goal.invariant_of-self
invariant_of-self g c = subst Sound (sym (after g c)) (oldest_lent-keeps (p g c.self.inside) c.self.invariant c.args.place c.unwrap-slot.result (first g c))

pub returns : goal.returns
returns g c =
    let d = c.self.inside in
    let M = g.P.PeerLane.Moved in
    let s = c.unwrap-slot.result in
    let id = next_lent d.book s in
    let old = holding_in (v g) d.book d.endpoints d.requests d.table d.peers.items in
    let new = holding_in (v g) c.lend-packet.new.self c.keep_lent.new.self d.requests d.table d.peers.items in
    let did : Did M (oldest_lent c.args.place id ∷ []) old new = record { parts = after g c; moved = quiet-moved M g.met.P.PeerLane.none (v g) d.peers.items } in
    let left = oldest_dropped-left (p g d) c.self.invariant c.args.place s (first g c) ∙ ap (λ (r : Records). s ∷ slots_at r c.args.place) (sym (ap (λ (q : Parts). q.records) (after g c))) in
    record {
      did = subst (λ (x : Holding g.row.P.Denot). (s : Slot) × (slots_at x.parts.records c.args.place ≡ s ∷ slots_at c.keep_lent.new.self c.args.place) × (c.lend-packet.result ≡ next_lent x.parts.book s) × Did M (oldest_lent c.args.place c.lend-packet.result ∷ []) x new) c.self.view_is
          (s, left, c.lend-packet.ensures.id, subst (λ (i : PacketId). Did M (oldest_lent c.args.place i ∷ []) old new) (sym c.lend-packet.ensures.id) did);
    }
