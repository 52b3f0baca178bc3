use Rattle.std.proofs.Common.{refl, rules, arith}
use Rattle.board_model.specs.State.{has_address}
use Rattle.board_model.specs.Change.{all_done, asks_for}
use Rattle.report_replay.proofs.Changed.{map-step, requests-mapped}
use Rattle.report_replay.specs.contracts.state.State.{the_view}
use Rattle.report_replay.proofs.state.State.find_name.Goals as goal

pub loop-request-preserved : goal.loop-request-preserved
loop-request-preserved c = search (rules, arith, map-step)

pub returns : goal.returns
returns c =
    requests-mapped c.args.self.now (all_done (asks_for c.args.name) (has_address c.args.address)) (the_view c.self.inside) c.self.inside.requests c.deref_mut-request-items.result.now c.loop-request.request-items c.loop-request.request-index c.self.view_is refl c.deref_mut-request-items.ensures.value c.loop-request-test.false c.loop-request.invariant
