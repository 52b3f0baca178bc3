use Rattle.std.proofs.Common.{◌≡◌, ◌∙◌, ℕ, Option, Some, ap, sym, subst}
use Rattle.std.specs.Prelude.{option_and_then, option_map, slice_get}
use Rattle.board_model.specs.State.{Endpoint, address_at, place_at}
use Rattle.domain_parts.specs.Parts.{Holding, parts_in, state_of}
use Rattle.domain_parts.proofs.Tables.{address-there}
use Rattle.domain_parts.proofs.holdings.Holdings.address_at.Goals as goal

pub returns : goal.returns
returns g c =
    let d = c.self.inside in
    let p = parts_in g.P.PeerLane.seen d.book d.endpoints d.requests d.table d.peers.items in
    let there = subst (λ (x : Holding g.row.P.Denot). place_at (state_of x.parts) c.args.at ≡ Some c.args.place) (sym c.self.view_is) c.requires.there in
    address-there d.book d.endpoints.endpoints c.args.place c.address_of.result c.address_of.ensures
    ∙ sym (ap (λ (o : Option ℕ). option_map (λ (e : Endpoint). e.address) (option_and_then (λ i. slice_get (state_of p).endpoints i) o)) there)
    ∙ ap (λ x. address_at (state_of x.parts) c.args.at) c.self.view_is
