use Rattle.std.proofs.Common.{◌∙◌, ap, arith}
use Rattle.std.specs.Prelude.{option_map}
use Rattle.mc_base.specs.NameMap.{Names, address_in}
use Rattle.endpoint_table.specs.Table.{Table, live_at}
use Rattle.endpoint_table.specs.InTable.{name_in}
use Rattle.endpoint_table.proofs.IndexLemmas.{address-found}
use Rattle.endpoint_table.proofs.table.EndpointTable.find.Goals as goal

pub returns : goal.returns
returns c =
    let t = c.self.inside in
    let indexed = c.self.invariant.indexed in
    c.find.ensures.address
    ∙ ap (λ n. address_in n t.live) c.name_in.ensures
    ∙ ap (λ (ks : Names). address_in (name_in t.domain c.args.local) ks) indexed.addresses
    ∙ address-found t.domain c.args.local t.records.items (omega arith, omega arith) indexed.bounded
    ∙ ap (λ (x : Table). option_map (λ r. r.address) (live_at x c.args.local)) c.self.view_is
