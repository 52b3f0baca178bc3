use Rattle.std.proofs.Common.{◌∙◌, ap}
use Rattle.board_model.specs.State.{has_address_of, place_of_address}
use Rattle.domain_parts.specs.Table.{holding}
use Rattle.domain_parts.specs.Records.{Records}
use Rattle.domain_parts.specs.InBook.{endpoint_in, endpoints_in}
use Rattle.domain_parts.proofs.Tables.{position-map}
use Rattle.domain_parts.proofs.endpoints.Endpoints.place_of_address.Goals as goal

pub returns-clause-place : goal.returns-clause-place
returns-clause-place c = λ b.
    c.place_with_address.ensures.place
    ∙ rw c.deref.ensures.value (position-map (endpoint_in b) (has_address_of c.args.address) c.self.inside.records.items)
    ∙ ap (λ (r : Records). place_of_address (holding (endpoints_in b r.endpoints)) c.args.address) c.self.view_is
