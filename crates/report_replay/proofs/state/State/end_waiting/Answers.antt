use Rattle.std.proofs.Common.{List, ap, sym, ◌∙◌, refl, rules, arith}
use Rattle.board_model.specs.State.{DomainState, Request, endpoint_of}
use Rattle.report_replay.specs.Replayed.{ended_at}
use Rattle.report_replay.specs.contracts.state.State.{the_view}
use Rattle.report_replay.proofs.Changed.{map-step, requests-mapped, ended-there, ended-nowhere}
use Rattle.report_replay.proofs.state.State.end_waiting.Goals as goal

pub loop-request-preserved : goal.loop-request-preserved
loop-request-preserved c = search (rules, arith, map-step)

pub returns-in_default : goal.returns-in_default
returns-in_default c =
    let now : DomainState = c.args.self.now in
    ap (λ (rs : List Request). record now { requests = rs }) (ended-nowhere (endpoint_of now c.args.address) c.args.word now.requests (sym c.local_of.ensures ∙ c.in_default.is))

pub returns : goal.returns
returns c =
    let now : DomainState = c.args.self.now in
    requests-mapped now (ended_at c.in-Some.local c.args.word) (the_view c.self.inside) c.self.inside.requests c.deref_mut-request-items.result.now c.loop-request.request-items c.loop-request.request-index c.self.view_is refl c.deref_mut-request-items.ensures.value c.loop-request-test.false c.loop-request.invariant
    ∙ ap (λ (rs : List Request). record now { requests = rs }) (ended-there (endpoint_of now c.args.address) c.in-Some.local c.args.word now.requests (sym c.local_of.ensures ∙ c.in-Some.is))
