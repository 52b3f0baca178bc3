use Rattle.std.proofs.Common.{◌∙◌, ◌∷◌, [], ap}
use Rattle.board_model.specs.State.{Endpoint}
use Rattle.board_model.specs.Change.{best_gone, changed, changed_all}
use Rattle.board_model.specs.CallChanges.{at_live}
use Rattle.report_replay.proofs.state.State.receive.Goals as goal

pub returns-in-Some : goal.returns-in-Some
returns-in-Some c =
    c.take_best.ensures.state
    ∙ ap (λ (e : Endpoint). changed c.args.self.now (best_gone e.address)) c.endpoint.view_is
    ∙ ap (λ x. changed_all c.args.self.now (at_live x (λ e. best_gone e.address ∷ []))) c.in-Some.ensures
