use Rattle.std.proofs.Common.{◌≡◌, ◌∙◌, ap, sym, refl, subst, length, Some, None}
use Rattle.std.proofs.lemmas.List.{length-map}
use Rattle.std.specs.Prelude.{slice_get}
use Rattle.board_model.specs.DomainCall.{available_at}
use Rattle.board_model.specs.State.{place_at, queue_at}
use Rattle.domain_parts.specs.CallSteps.{Succeeds}
use Rattle.domain_parts.specs.Parts.{Holding, holding_in, parts_in, state_of}
use Rattle.domain_parts.specs.Records.{waiting_in}
use Rattle.domain_parts.proofs.Meaning.{available-means}
use Rattle.domain_parts.proofs.Steps.{queue-long}
use Rattle.domain_parts.proofs.Stepping.{quiet-moved}
use Rattle.domain_parts.proofs.holdings.Holdings.count_at.Goals as goal

pub returns-clause-count : goal.returns-clause-count
returns-clause-count g c =
    let d = c.self.inside in
    let v = g.P.PeerLane.seen in
    let p = parts_in v d.book d.endpoints d.requests d.table d.peers.items in
    let there = subst (λ (x : Holding g.row.P.Denot). place_at (state_of x.parts) c.args.at ≡ Some c.args.place) (sym c.self.view_is) c.requires.there in
    c.queued_at.ensures
    ∙ sym (length-map (waiting_in (slice_get d.endpoints.endpoints c.args.place)) (λ w. w.slot))
    ∙ queue-long p c.args.at c.args.place there
    ∙ ap (λ x. length (queue_at (state_of x.parts) c.args.at)) c.self.view_is

pub returns-clause-succeeds : goal.returns-clause-succeeds
returns-clause-succeeds g c =
    let d = c.self.inside in
    let v = g.P.PeerLane.seen in
    let h = holding_in v d.book d.endpoints d.requests d.table d.peers.items in
    subst (λ (x : Holding g.row.P.Denot). Succeeds g.P.PeerLane.Moved c.args.at.node (available_at c.args.at.port) x x None) c.self.view_is
    (record {
      did = record { parts = refl; moved = quiet-moved g.P.PeerLane.Moved g.met.P.PeerLane.none v d.peers.items };
      means = available-means h.parts c.args.at.node c.args.at.port;
    })
