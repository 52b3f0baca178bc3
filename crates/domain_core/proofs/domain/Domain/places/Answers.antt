use Rattle.std.proofs.Common.{map, subst}
use Rattle.std.specs.Prelude.{Contains, IsNone, ◌↔◌}
use Rattle.domain_core.proofs.domain.Domain.places.Goals as goal

pub returns-clause-none : goal.returns-clause-none
returns-clause-none g c = subst (λ x. IsNone c.places.result ↔ (Contains (map (λ p. p.number) x.state.peers) c.args.peer → ⊥)) c.self.view_is c.places.ensures.none
