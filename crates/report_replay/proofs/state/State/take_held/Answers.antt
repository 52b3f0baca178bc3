use Rattle.std.proofs.Common.{List, ap, ◌∙◌, rules}
use Rattle.std.specs.Prelude.{filter, not}
use Rattle.std.proofs.lemmas.Fn.{filter_same}
use Rattle.board_model.specs.State.{DomainState, HeldFrame, holds_from}
use Rattle.report_replay.specs.contracts.state.State.{the_view}
use Rattle.report_replay.proofs.state.State.take_held.Goals as goal

pub returns-clause-state : goal.returns-clause-state
returns-clause-state c =
    let others = λ (h : HeldFrame). not (holds_from c.args.peer h) in
    ap (λ (hs : List HeldFrame). record (the_view c.self.inside) { held = hs }) (filter_same _ others _ (λ x b f called. search rules) _ _ c.retain.ensures.filtered)
    ∙ ap (λ (t : DomainState). record t { held = filter others t.held }) c.self.view_is
