use Rattle.std.proofs.Common.{◌∙◌, ap, subst, ◌≡◌, is_some}
use Rattle.std.specs.Prelude.{position, ◌==◌}
use Rattle.board_model.specs.State.{is_numbered, place_of_peer}
use Rattle.domain_parts.specs.Parts.{state_of}
use Rattle.domain_parts.specs.Peers.{peer_in}
use Rattle.domain_parts.proofs.Stepping.{state-seen}
use Rattle.domain_parts.proofs.Tables.{position-map}
use Rattle.domain_parts.proofs.holdings.Holdings.has_peer.Goals as goal
use Rattle.domain_parts.specs.InBook.{open_parts}

pub returns-clause-peer : goal.returns-clause-peer
returns-clause-peer g c =
    let d = c.self.inside in
    let v = g.P.PeerLane.seen in
    let at = subst (λ ps. c.place_of.result ≡ position (λ p. p.number == c.args.number) ps) c.deref.ensures.value c.place_of.ensures.place in
    c.is_some.ensures
    ∙ ap (λ o. is_some o) (at ∙ position-map (peer_in v (open_parts d.book d.endpoints.parts) d.table) (is_numbered c.args.number) d.peers.items)
    ∙ ap (λ s. is_some (place_of_peer s c.args.number)) (state-seen v d.book d.endpoints d.requests d.table d.peers.items)
    ∙ ap (λ x. is_some (place_of_peer (state_of x.parts) c.args.number)) c.self.view_is
