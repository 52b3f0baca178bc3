use Rattle.std.proofs.Common.{◌≡◌, ◌+◌, ◌<◌, ℕ, length, ap, subst, sym, arith}
use Rattle.std.specs.List.{AllByRecursion}
use Rattle.call_service.specs.Served.{rising}
use Rattle.call_actor.specs.CallsBoards.{AreNew, board_of}
use Rattle.call_actor.proofs.CallsRuns.{first-new, next-new}
use Rattle.call_actor.proofs.ClientCalls.{own-cells, own-few}
use Rattle.call_actor.proofs.run.call_actors.Goals as goal

pub loop-client-init : goal.loop-client-init
loop-client-init c =
    first-new (board_of c.args.clients c.args.repeat c.args.calls.now) c.new-actors.result.items _ _ c.new-actors.ensures.items c.in_ok-append.ensures c.in_ok-server.ensures

pub client-requires-clause-cells : goal.client-requires-clause-cells
client-requires-clause-cells c = subst (AllByRecursion (λ k. k.0 < 16)) (sym c.in_ok-lines.ensures) (own-cells c.args.clients c.args.repeat c.loop-client.client c.args.calls.now c.requires.board.calls)

pub client-requires-clause-few : goal.client-requires-clause-few
client-requires-clause-few c = omega (arith, ap length c.in_ok-lines.ensures, own-few c.args.clients c.args.repeat c.loop-client.client c.args.calls.now, c.requires.few)

pub loop-client-preserved : goal.loop-client-preserved
loop-client-preserved c = next-new (board_of c.args.clients c.args.repeat c.args.calls.now) c.loop-client.client c.loop-client.actors.items _ _ _ c.loop-client.auto.client c.in_ok-append-2.ensures c.in_ok-lines.ensures c.in_ok-client.ensures c.loop-client.invariant

pub returns : goal.returns
returns c =
    let all : c.loop-client.client ≡ c.args.clients + 1 = omega (arith, c.loop-client-test.false, c.loop-client.auto.client-end (omega arith)) in
    subst (λ (n : ℕ). AreNew (board_of c.args.clients c.args.repeat c.args.calls.now) (rising 0 n) c.loop-client.actors.items) all c.loop-client.invariant
