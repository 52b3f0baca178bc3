use Rattle.std.proofs.Common.{ap, ◌∙◌, Some, option_map, subst, sym}
use Rattle.report_replay.specs.Verdicts.{Judges, known_of}
use Rattle.report_replay.specs.Views.{end_of}
use Rattle.report_replay.specs.contracts.endpoint.Endpoint.{the_view}
use Rattle.report_replay.proofs.Letters.{message-kept}
use Rattle.report_replay.proofs.state.State.judge_message.Goals as goal

pub returns-in-None : goal.returns-in-None
returns-in-None c = λ item.
    let known = known_of c.args.self.now c.args.way.peer in
    let its = message-kept c.args.self.now c.args.way item (the_view c.endpoint.inside) (ap Some c.endpoint.view_is ∙ c.in-Some.ensures) (ap (option_map end_of) (sym c.in-None.is)) in
    subst (λ r. Judges c.args.way.peer known item r c.keep.result) its (c.keep.ensures c.args.way.peer known item)
