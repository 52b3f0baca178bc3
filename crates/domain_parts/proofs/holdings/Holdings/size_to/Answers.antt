use Rattle.std.proofs.Common.{◌∙◌, ap}
use Rattle.board_model.specs.State.{size_to}
use Rattle.domain_parts.specs.Parts.{Holding, peers_seen, plain, state_of}
use Rattle.domain_parts.proofs.LaneSizes.{book-size}
use Rattle.domain_parts.proofs.holdings.Holdings.size_to.Goals as goal

pub returns : goal.returns
returns g c =
    let d = c.self.inside in
    c.size_of.ensures
    ∙ book-size plain d.book d.endpoints d.requests d.table (peers_seen g.P.PeerLane.seen d.peers.items) c.self.invariant c.args.number
    ∙ ap (λ (x : Holding g.row.P.Denot). size_to (state_of x.parts) c.args.number) c.self.view_is
