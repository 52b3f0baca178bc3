use Rattle.std.proofs.Common.{rules}
use Rattle.std.specs.Ordering.{nat_cmp}
use Rattle.std.proofs.lemmas.Fn.{always_returns_same}
use Rattle.mc_base.specs.NameMap.{rank}
use Rattle.name_service.proofs.NamePlaces.{searched}
use Rattle.name_service.proofs.known.place_of.Goals as goal

-- the comparisons are by the ranks
pub returns-clause-found : goal.returns-clause-found
returns-clause-found c =
    let facts = c.binary_search_by.ensures in
    let by_rank = facts.position (λ k. nat_cmp (rank k.name) (rank c.args.name)) (always_returns_same _ _ _ (λ a r f called. search rules)) in
    (searched c.args.list.now c.args.name c.binary_search_by.result c.requires facts.bound by_rank).0

pub returns-clause-absent : goal.returns-clause-absent
returns-clause-absent c =
    let facts = c.binary_search_by.ensures in
    let by_rank = facts.position (λ k. nat_cmp (rank k.name) (rank c.args.name)) (always_returns_same _ _ _ (λ a r f called. search rules)) in
    (searched c.args.list.now c.args.name c.binary_search_by.result c.requires facts.bound by_rank).1
