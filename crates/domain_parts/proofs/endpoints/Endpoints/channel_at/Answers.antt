use Rattle.std.proofs.Common.{ap, arith, length, ◌<◌}
use Rattle.domain_parts.specs.declared.endpoints.Endpoint.{Endpoint}
use Rattle.domain_parts.specs.InTable.{IsKept, IsNumbered}
use Rattle.domain_parts.specs.Records.{Records}
use Rattle.domain_parts.proofs.Tables.{All-read}
use Rattle.domain_parts.proofs.endpoints.Endpoints.channel_at.Goals as goal

pub returns-clause-kept : goal.returns-clause-kept
returns-clause-kept c =
    let es = c.self.inside.records.items in
    let lt : c.args.place < length es = omega (arith, c.requires.within, ap (λ (r : Records). length r.endpoints) c.self.view_is) in
    All-read (λ (e : Endpoint). IsKept e.channel) es c.args.place c.index.result.now lt c.index.ensures c.self.invariant.ends

pub returns-clause-numbered : goal.returns-clause-numbered
returns-clause-numbered c =
    let es = c.self.inside.records.items in
    let lt : c.args.place < length es = omega (arith, c.requires.within, ap (λ (r : Records). length r.endpoints) c.self.view_is) in
    All-read (λ (e : Endpoint). IsNumbered e.channel) es c.args.place c.index.result.now lt c.index.ensures c.self.invariant.numbered
