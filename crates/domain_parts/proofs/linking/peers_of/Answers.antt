use Rattle.std.proofs.Common.{◌≡◌, ◌∙◌, rules, map}
use Rattle.std.specs.List.{insert}
use Rattle.lane_end.specs.Loop.{new_loop}
use Rattle.domain_parts.specs.Opened.{linked_peer, own_place, own_peer}
use Rattle.domain_parts.proofs.LinkPlaces.{placed-insert}
use Rattle.domain_parts.proofs.linking.peers_of.Goals as goal

pub returns : goal.returns
returns g c =
    let own = own_peer c.args.number (new_loop c.args.pool) in
    let items : c.insert.new.self.items ≡ insert (map linked_peer c.args.links.items) (own_place c.args.number c.args.links.items) own = search rules in
    items ∙ placed-insert c.args.number linked_peer own c.args.links.items
