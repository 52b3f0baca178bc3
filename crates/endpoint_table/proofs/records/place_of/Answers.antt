use Rattle.std.proofs.Common.{rules}
use Rattle.std.specs.Ordering.{nat_cmp}
use Rattle.std.proofs.lemmas.Fn.{always_returns_same}
use Rattle.endpoint_table.proofs.SearchLemmas.{searched}
use Rattle.endpoint_table.proofs.records.place_of.Goals as goal

pub returns-clause-found : goal.returns-clause-found
returns-clause-found c =
    let facts = c.binary_search_by.ensures in
    let by_address = facts.position (λ r. nat_cmp r.address c.args.address) (always_returns_same _ _ _ (λ a r f called. search rules)) in
    (searched c.args.records.now c.args.address _ c.requires facts.bound by_address).0

pub returns-clause-absent : goal.returns-clause-absent
returns-clause-absent c =
    let facts = c.binary_search_by.ensures in
    let by_address = facts.position (λ r. nat_cmp r.address c.args.address) (always_returns_same _ _ _ (λ a r f called. search rules)) in
    (searched c.args.records.now c.args.address _ c.requires facts.bound by_address).1
