use Rattle.std.proofs.Common.{rules, ◌∙◌, ap, sym}
use Rattle.std.specs.Ordering.{nat_cmp}
use Rattle.std.proofs.lemmas.Fn.{always_returns_same}
use Rattle.domain_parts.proofs.Addresses.{place_found, searched}
use Rattle.domain_parts.proofs.endpoints.place_with_address.Goals as goal

pub returns-in-Ok-clause-place : goal.returns-in-Ok-clause-place
returns-in-Ok-clause-place c =
    let facts = c.binary_search_by-found.ensures in
    let by_address = facts.position (λ e. nat_cmp e.address c.args.address) (always_returns_same _ _ _ (λ a r f called. search rules)) in
    sym (ap place_found c.in-Ok.is) ∙ searched c.args.records.now c.args.address c.binary_search_by-found.result c.requires facts.bound by_address

pub returns-in-Err-clause-place : goal.returns-in-Err-clause-place
returns-in-Err-clause-place c =
    let facts = c.binary_search_by-found.ensures in
    let by_address = facts.position (λ e. nat_cmp e.address c.args.address) (always_returns_same _ _ _ (λ a r f called. search rules)) in
    sym (ap place_found c.in-Err.is) ∙ searched c.args.records.now c.args.address c.binary_search_by-found.result c.requires facts.bound by_address
