use Rattle.std.proofs.Common.{◌∷◌, [], ◌++◌, ap, ◌∙◌}
use Rattle.board_model.specs.Change.{with_queue}
use Rattle.report_replay.proofs.Changed.{endpoint-set, no-endpoint}
use Rattle.report_replay.specs.contracts.state.State.{the_view}
use Rattle.report_replay.specs.contracts.endpoint.Endpoint.{the_view as endpoint_view}
use Rattle.report_replay.proofs.state.State.queue_item.Goals as goal

pub returns-in_default : goal.returns-in_default
returns-in_default c = no-endpoint c.args.self.now c.args.address (with_queue (λ q. q ++ c.args.item ∷ [])) _ c.place_of_address.ensures c.in_default.is

pub returns : goal.returns
returns c =
    let f = with_queue (λ q. q ++ c.args.item ∷ []) in
    let made = ap (λ q. record (endpoint_view c.behind-self.inside) { queue = q }) c.in-Ok.ensures.items ∙ ap f c.behind-self.view_is in
    endpoint-set c.args.self.now c.args.address f (the_view c.self.inside) c.place_of_address.result c.in-Some.place _ _ c.self.view_is c.place_of_address.ensures c.in-Some.is c.index_mut.ensures.value made
