use Rattle.std.proofs.Common.{◌∙◌, ap, arith, length, sum_by}
use Rattle.domain_parts.specs.Hearing.{messages_waiting}
use Rattle.domain_parts.specs.Records.{Records, all_waiting}
use Rattle.domain_parts.proofs.Waits.{messages-within}
use Rattle.domain_parts.proofs.endpoints.Endpoints.queued.Goals as goal

pub count_messages-requires : goal.count_messages-requires
count_messages-requires c =
    let most = messages-within c.self.inside.records.items in
    let total = ap (λ (r : Records). length (all_waiting r.endpoints)) c.self.view_is in
    rw c.deref.ensures.value (omega (arith, most, total, c.requires))

pub returns-clause-count : goal.returns-clause-count
returns-clause-count c =
    c.count_messages.ensures
    ∙ rw c.deref.ensures.value (ap (λ (r : Records). sum_by messages_waiting r.endpoints) c.self.view_is)

pub returns-clause-most : goal.returns-clause-most
returns-clause-most c =
    let most = messages-within c.self.inside.records.items in
    let total = ap (λ (r : Records). length (all_waiting r.endpoints)) c.self.view_is in
    let counted = rw c.deref.ensures.value at c.count_messages.ensures in
    omega (arith, most, total, counted)
