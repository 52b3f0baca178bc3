use Rattle.std.proofs.Common.{◌≡◌, ◌∷◌, map, take}
use Rattle.domain_parts.specs.Opened.{size_of}
use Rattle.domain_parts.proofs.linking.sizes_of.Given as goal

abbrev pub invariant-loop-link : goal.invariant-loop-link
invariant-loop-link g l = l.sizes.items ≡ (l.number, l.pool) ∷ map size_of (take l.link-index l.links)
