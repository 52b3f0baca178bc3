use Rattle.std.proofs.Common.{sym, ap, ◌∙◌}
use Rattle.std.specs.Prelude.{option_and_then}
use Rattle.board_model.specs.State.{Item}
use Rattle.board_model.specs.Change.{with_queue}
use Rattle.board_model.specs.CallChanges.{best_item}
use Rattle.board_model.specs.Choice.{without_best}
use Rattle.report_replay.proofs.Changed.{endpoint-set, no-endpoint, endpoint-at, nowhere}
use Rattle.report_replay.specs.contracts.state.State.{the_view}
use Rattle.report_replay.proofs.state.State.take_best.Goals as goal

pub returns-in_err-place-clause-state : goal.returns-in_err-place-clause-state
returns-in_err-place-clause-state c = no-endpoint c.args.self.now c.args.address (with_queue (without_best (λ (i : Item). i.priority))) _ c.place_of_address.ensures c.in_err-place.was

pub returns-in_err-place-clause-item : goal.returns-in_err-place-clause-item
returns-in_err-place-clause-item c = c.from_residual.ensures ∙ sym (ap (option_and_then best_item) (nowhere c.args.self.now c.args.address _ c.place_of_address.ensures c.in_err-place.was))

pub returns-clause-state : goal.returns-clause-state
returns-clause-state c = endpoint-set c.args.self.now c.args.address (with_queue (without_best (λ (i : Item). i.priority))) (the_view c.self.inside) c.place_of_address.result c.in_ok-place.place _ _ c.self.view_is c.place_of_address.ensures c.in_ok-place.was c.index_mut.ensures.value c.take_best.ensures.endpoint

pub returns-clause-item : goal.returns-clause-item
returns-clause-item c =
    c.take_best.ensures.item ∙ ap (option_and_then best_item) (sym (endpoint-at c.args.self.now c.args.address (the_view c.self.inside) c.place_of_address.result c.in_ok-place.place _ c.self.view_is c.place_of_address.ensures c.in_ok-place.was c.index_mut.ensures.value))
