use Rattle.std.proofs.Common.{◌≡◌, ◌∙◌, ◌∷◌, [], List, map, Some, sym, refl, subst}
use Rattle.std.specs.Prelude.{IsOk, slice_get}
use Rattle.board_model.specs.State.{place_at}
use Rattle.message_queue.specs.Queue.{Waiting}
use Rattle.domain_parts.specs.LaneSeen.{LaneSeen}
use Rattle.domain_parts.specs.Records.{slots_at, waiting_in}
use Rattle.domain_parts.specs.declared.holdings.Holdings.TheInside.{Inside}
use Rattle.domain_parts.specs.Parts.{Holding, Parts, Sound, holding_in, parts_in, peers_seen, plain, state_of}
use Rattle.domain_parts.specs.Steps.{Did, done, endpoint_gone}
use Rattle.domain_parts.proofs.Removing.{delete-allowed}
use Rattle.domain_parts.proofs.Steps.{endpoint_gone-keeps, place-within}
use Rattle.domain_parts.proofs.Stepping.{quiet-moved, quiet-peers}
use Rattle.domain_parts.proofs.holdings.Holdings.remove_empty.Given.{Over}
use Rattle.domain_parts.proofs.holdings.Holdings.remove_empty.Goals as goal

abbrev v : (g : Over) → (g.row.P.Denot → LaneSeen)
v g = g.P.PeerLane.seen

abbrev p : (g : Over) → Inside g.row.P.Denot → Parts
p g d = parts_in (v g) d.book d.endpoints d.requests d.table d.peers.items

pub unwrap-requires : goal.unwrap-requires
unwrap-requires g c =
    let d = c.self.inside in
    let there = subst (λ (x : Holding g.row.P.Denot). place_at (state_of x.parts) c.args.at ≡ Some c.args.place) (sym c.self.view_is) c.requires.there in
    subst IsOk (sym (c.delete.ensures.answer ∙ delete-allowed plain d.book d.endpoints d.requests d.table (p g d).peers c.args.at c.args.place c.self.invariant there)) refl

after : (g : Over) (c : goal.After-complete_all g) → parts_in (v g) c.self.inside.book c.remove.new.self c.complete_all.new.requests c.delete.new.self c.self.inside.peers.items ≡ done (endpoint_gone c.args.place c.args.at) (p g c.self.inside)
after g c =
    let r = c.remove.ensures in
    let q = c.complete_all.ensures in
    let t = rw c.unwrap.ensures at c.delete.ensures.deleted in
    let ps = sym (quiet-peers (peers_seen (v g) c.self.inside.peers.items)) in
    cc

pub invariant_of-self : goal.invariant_of-self
invariant_of-self g c =
    let d = c.self.inside in
    let there = subst (λ (x : Holding g.row.P.Denot). place_at (state_of x.parts) c.args.at ≡ Some c.args.place) (sym c.self.view_is) c.requires.there in
    let empty = subst (λ (x : Holding g.row.P.Denot). slots_at x.parts.records c.args.place ≡ []) (sym c.self.view_is) c.requires.empty in
    subst Sound (sym (after g c)) (endpoint_gone-keeps (p g d) c.self.invariant c.args.place c.args.at there empty)

pub returns : goal.returns
returns g c =
    let d = c.self.inside in
    let M = g.P.PeerLane.Moved in
    let now = holding_in (v g) d.book c.remove.new.self c.complete_all.new.requests c.delete.new.self d.peers.items in
    let did : Did M (endpoint_gone c.args.place c.args.at ∷ []) (holding_in (v g) d.book d.endpoints d.requests d.table d.peers.items) now = record { parts = after g c; moved = quiet-moved M g.met.P.PeerLane.none (v g) d.peers.items } in
    subst (λ (x : Holding g.row.P.Denot). Did M (endpoint_gone c.args.place c.args.at ∷ []) x now) c.self.view_is did

pub remove-requires-clause-within : goal.remove-requires-clause-within
remove-requires-clause-within g c = place-within (p g c.self.inside) c.args.at c.args.place (subst (λ (x : Holding g.row.P.Denot). place_at (state_of x.parts) c.args.at ≡ Some c.args.place) (sym c.self.view_is) c.requires.there)

no-one-waits : (ws : List Waiting) → map (λ (w : Waiting). w.slot) ws ≡ [] → ws ≡ []
no-one-waits [] none = refl
no-one-waits (w ∷ ws) none = absurd cc

pub remove-requires-clause-empty : goal.remove-requires-clause-empty
remove-requires-clause-empty g c = no-one-waits (waiting_in (slice_get c.self.inside.endpoints.endpoints c.args.place)) (subst (λ (x : Holding g.row.P.Denot). slots_at x.parts.records c.args.place ≡ []) (sym c.self.view_is) c.requires.empty)
