use Rattle.std.proofs.Common.{drop, sym, ap, ◌∙◌}
use Rattle.std.specs.Prelude.{option_and_then}
use Rattle.board_model.specs.State.{Endpoint}
use Rattle.board_model.specs.Change.{with_queue}
use Rattle.board_model.specs.Choice.{oldest}
use Rattle.report_replay.proofs.Changed.{endpoint-set, no-endpoint, endpoint-at, nowhere}
use Rattle.report_replay.specs.contracts.state.State.{the_view}
use Rattle.report_replay.proofs.state.State.take_oldest.Goals as goal

pub returns-in_err-place-clause-state : goal.returns-in_err-place-clause-state
returns-in_err-place-clause-state c = no-endpoint c.args.self.now c.args.address (with_queue (drop 1)) _ c.place_of_address.ensures c.in_err-place.was

pub returns-in_err-place-clause-item : goal.returns-in_err-place-clause-item
returns-in_err-place-clause-item c = c.from_residual.ensures ∙ sym (ap (option_and_then (λ (e : Endpoint). oldest e.queue)) (nowhere c.args.self.now c.args.address _ c.place_of_address.ensures c.in_err-place.was))

pub returns-clause-state : goal.returns-clause-state
returns-clause-state c = endpoint-set c.args.self.now c.args.address (with_queue (drop 1)) (the_view c.self.inside) c.place_of_address.result c.in_ok-place.place _ _ c.self.view_is c.place_of_address.ensures c.in_ok-place.was c.index_mut.ensures.value c.take_oldest.ensures.endpoint

pub returns-clause-item : goal.returns-clause-item
returns-clause-item c =
    c.take_oldest.ensures.item ∙ ap (option_and_then (λ (e : Endpoint). oldest e.queue)) (sym (endpoint-at c.args.self.now c.args.address (the_view c.self.inside) c.place_of_address.result c.in_ok-place.place _ c.self.view_is c.place_of_address.ensures c.in_ok-place.was c.index_mut.ensures.value))
