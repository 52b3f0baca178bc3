use Rattle.std.proofs.Common.{◌∙◌, ap, sym, arith, sum_by}
use Rattle.board_model.specs.Queues.{messages_at}
use Rattle.domain_parts.specs.Parts.{peers_seen, plain, state_of}
use Rattle.board_model.proofs.UnnamedCounts.{messages-unnamed}
use Rattle.domain_parts.proofs.CountsFrom.{waiting-fits}
use Rattle.domain_parts.proofs.Waits.{messages-in}
use Rattle.domain_parts.proofs.holdings.Holdings.messages_queued.Goals as goal

pub queued-requires : goal.queued-requires
queued-requires g c =
    let d = c.self.inside in
    let v = g.P.PeerLane.seen in
    let fits = waiting-fits plain d.book d.endpoints d.requests d.table (peers_seen v d.peers.items) c.self.invariant in
    omega (arith, fits)

pub overflow_cast-result : goal.overflow_cast-result
overflow_cast-result g c =
    let d = c.self.inside in
    let v = g.P.PeerLane.seen in
    let fits = waiting-fits plain d.book d.endpoints d.requests d.table (peers_seen v d.peers.items) c.self.invariant in
    omega (arith, fits, c.queued.ensures.most)

pub returns : goal.returns
returns g c =
    c.queued.ensures.count ∙ sym (messages-in c.self.inside.book c.self.inside.endpoints.endpoints)
    ∙ ap (λ x. sum_by messages_at (state_of x.parts).endpoints) c.self.view_is
    ∙ sym (messages-unnamed (state_of c.args.self.now.parts).endpoints)
