use Rattle.std.proofs.Common.{List, ap, ◌∙◌}
use Rattle.mc_base.specs.declared.request.PacketId.{PacketId}
use Rattle.domain_parts.specs.InTable.{records_of}
use Rattle.domain_parts.specs.Records.{Records, without_lent_at}
use Rattle.domain_parts.proofs.Tables.{removed}
use Rattle.domain_parts.proofs.endpoints.Endpoints.drop_lent.Goals as goal

pub returns : goal.returns
returns c =
    ap (λ (ids : List PacketId). record (records_of c.self.inside) { lent = ids }) (c.remove.ensures.items ∙ removed c.self.inside.lent.items c.args.place)
    ∙ ap (λ (r : Records). without_lent_at r c.args.place) c.self.view_is
