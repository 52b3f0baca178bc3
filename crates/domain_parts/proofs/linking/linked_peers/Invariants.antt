use Rattle.std.proofs.Common.{◌≡◌, map}
use Rattle.domain_parts.specs.Opened.{linked_peer}
use Rattle.domain_parts.proofs.linking.linked_peers.Given as goal

abbrev pub invariant-loop-link : goal.invariant-loop-link
invariant-loop-link g l = l.peers.items ≡ map linked_peer l.yielded
