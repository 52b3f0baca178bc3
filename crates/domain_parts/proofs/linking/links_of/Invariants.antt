use Rattle.std.proofs.Common.{◌≡◌, ◌≤◌, ◌++◌}
use Rattle.std.specs.Prelude.{vec_capacity}
use Rattle.domain_parts.specs.AllMoved.{ends_of}
use Rattle.domain_parts.specs.Opening.{links_in}
use Rattle.domain_parts.proofs.linking.links_of.Given as goal

abbrev pub invariant-loop-peer : goal.invariant-loop-peer
invariant-loop-peer g l = record {
  links : l.links.items ≡ links_in (ends_of l.yielded);
  whole : l.yielded ++ l.peer-iterator.rest.items ≡ l.fn.peers.items;
  room : 8 ≤ vec_capacity l.links;
}
