use Rattle.std.proofs.Common.{ap, ◌∙◌}
use Rattle.std.specs.Prelude.{option_map}
use Rattle.board_model.specs.Change.{without_queue}
use Rattle.report_replay.specs.Views.{end_of}
use Rattle.report_replay.proofs.Changed.{endpoint-set, no-endpoint}
use Rattle.report_replay.specs.contracts.state.State.{the_view}
use Rattle.report_replay.specs.contracts.endpoint.Endpoint.{the_view as endpoint_view}
use Rattle.report_replay.proofs.state.State.drop_queue.Goals as goal

pub returns-in-Some : goal.returns-in-Some
returns-in-Some c =
    let f = without_queue (option_map end_of c.args.channel) in
    endpoint-set c.args.self.now c.args.address f (the_view c.self.inside) c.place_of_address.result c.in-Some.place _ _ c.self.view_is c.place_of_address.ensures c.in-Some.is c.index_mut-endpoint.ensures.value (ap (λ q. record (f (endpoint_view c.endpoint.inside)) { queue = q }) c.clear.ensures.items ∙ ap f c.endpoint.view_is)

pub returns-in_default : goal.returns-in_default
returns-in_default c = no-endpoint c.args.self.now c.args.address (without_queue (option_map end_of c.args.channel)) _ c.place_of_address.ensures c.in_default.is
