use Rattle.std.proofs.Common.{ℕ, List, not, filter, ap, ◌∙◌, rules}
use Rattle.std.proofs.lemmas.Fn.{filter_same}
use Rattle.board_model.specs.State.{DomainState, Endpoint, has_address_of}
use Rattle.board_model.specs.Change.{changed, endpoint_gone}
use Rattle.report_replay.specs.contracts.state.State.{the_view}
use Rattle.report_replay.proofs.state.State.remove_endpoint.Goals as goal

pub returns : goal.returns
returns c =
    let s : DomainState = the_view c.self.inside in
    let others = λ (e : Endpoint). not (has_address_of c.args.address e) in
    let kept = filter_same _ others _ (λ x b f called. search rules) _ _ c.retain.ensures.filtered in
    ap (λ (es : List Endpoint). record s { endpoints = es; ended = c.insert_rising.new.list.items }) kept
    ∙ ap (λ (ns : List ℕ). record s { endpoints = filter others s.endpoints; ended = ns }) c.in_ok-insert_rising.ensures
    ∙ ap (λ (t : DomainState). changed t (endpoint_gone c.args.address)) c.self.view_is
