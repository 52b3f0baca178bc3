use Rattle.std.proofs.Common.{List, ap, sym, ◌∙◌}
use Rattle.board_model.specs.State.{DomainState, Request, endpoint_of, has_item, waits_at}
use Rattle.board_model.specs.Change.{done_with}
use Rattle.report_replay.specs.contracts.state.State.{the_view}
use Rattle.report_replay.proofs.Changed.{request-set, none-set, handed-at, handed-nowhere}
use Rattle.report_replay.proofs.state.State.hand_item.Goals as goal

pub returns-in_default : goal.returns-in_default
returns-in_default c =
    let now : DomainState = c.args.self.now in
    ap (λ (rs : List Request). record now { requests = rs }) (handed-nowhere (endpoint_of now c.args.address) c.args.item now.requests (sym c.local_of.ensures ∙ c.in_default.is))

pub returns-in-Some-place_of_waiting : goal.returns-in-Some-place_of_waiting
returns-in-Some-place_of_waiting c =
    let now : DomainState = c.args.self.now in
    let at = c.in-Some.local in
    request-set now (waits_at at) (done_with (has_item c.args.item)) (the_view c.self.inside) c.in-Some-place_of_waiting.at _ _ c.self.view_is (sym c.place_of_waiting.ensures ∙ c.in-Some-place_of_waiting.is) c.index_mut.ensures.value c.complete.ensures
    ∙ ap (λ (rs : List Request). record now { requests = rs }) (handed-at (endpoint_of now c.args.address) at c.args.item now.requests (sym c.local_of.ensures ∙ c.in-Some.is))

pub returns-in_default-place_of_waiting : goal.returns-in_default-place_of_waiting
returns-in_default-place_of_waiting c =
    let now : DomainState = c.args.self.now in
    let at = c.in-Some.local in
    ap (λ (rs : List Request). record now { requests = rs })
    (none-set (waits_at at) (done_with (has_item c.args.item)) now.requests (sym c.place_of_waiting.ensures ∙ c.in_default-place_of_waiting.is)
    ∙ handed-at (endpoint_of now c.args.address) at c.args.item now.requests (sym c.local_of.ensures ∙ c.in-Some.is))
