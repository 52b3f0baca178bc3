use Rattle.std.proofs.Common.{Bool, subst}
use Rattle.domain_parts.specs.Parts.{shown}
use Rattle.domain_parts.specs.Turned.{VisitsAll}
use Rattle.domain_parts.proofs.VisitedAll.{turn-begun-made, turn-idle-made}
use Rattle.domain_parts.proofs.holdings.Holdings.take_turn.Goals as goal

pub returns-then-visit_peers-clause-turn : goal.returns-then-visit_peers-clause-turn
returns-then-visit_peers-clause-turn g c =
    let M = g.P.PeerLane.Moved in
    let n = c.visit_peers.new in
    let lines = c.args.journal.now.lines in
    turn-begun-made M (shown c.args.self.now) (shown n.self) lines n.journal.lines (subst (λ (b : Bool). VisitsAll M (shown c.args.self.now) (shown n.self) lines n.journal.lines b) c.if-visit_peers.true c.visit_peers.ensures.visits)

pub returns-clause-turn : goal.returns-clause-turn
returns-clause-turn g c =
    let M = g.P.PeerLane.Moved in
    let n = c.visit_peers.new in
    let lines = c.args.journal.now.lines in
    turn-idle-made M (shown c.args.self.now) (shown n.self) lines n.journal.lines c.note.new.self.lines (subst (λ (b : Bool). VisitsAll M (shown c.args.self.now) (shown n.self) lines n.journal.lines b) c.if-visit_peers.false c.visit_peers.ensures.visits) c.note.ensures.lines
