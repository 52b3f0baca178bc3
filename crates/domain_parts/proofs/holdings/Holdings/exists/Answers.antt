use Rattle.std.proofs.Common.{◌≡◌, ◌∙◌, sym, refl, subst, Option, is_some, ap}
use Rattle.board_model.specs.Answer.{stands_at}
use Rattle.board_model.specs.Unnamed.{no_names}
use Rattle.request_set.specs.Requests.{Standing, request_of}
use Rattle.request_set.specs.declared.ask.Ask.{Ask}
use Rattle.domain_parts.specs.DomainView.{place_of_id}
use Rattle.domain_parts.specs.Parts.{Holding, holding_in, shown, state_of}
use Rattle.domain_parts.proofs.WaitPlaces.{some-map, stands-at}
use Rattle.board_model.proofs.RenamedCalls.{stands-renamed}
use Rattle.domain_parts.proofs.holdings.Holdings.exists.Goals as goal

pub returns : goal.returns
returns g c =
    let d = c.self.inside in
    let h = holding_in g.P.PeerLane.seen d.book d.endpoints d.requests d.table d.peers.items in
    let here : c.is_some.result ≡ stands_at (shown h).state (place_of_id (shown h).ids c.args.id) =
    c.is_some.ensures ∙ ap (λ (o : Option Ask). is_some o) c.asked.ensures ∙ some-map (λ (r : Standing). r.ask) (request_of d.requests c.args.id) ∙ sym (stands-at d.book d.requests (state_of h.parts) refl c.args.id) ∙ sym (stands-renamed no_names (state_of h.parts) (place_of_id (shown h).ids c.args.id)) in
    subst (λ (x : Holding g.row.P.Denot). c.is_some.result ≡ stands_at (shown x).state (place_of_id (shown x).ids c.args.id)) c.self.view_is here
