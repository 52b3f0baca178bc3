use denote.Param.Send.{sendable}
use Rattle.hop_relay.specs.NextLines.{contents}
use Rattle.hop_relay.proofs.RelayRuns.{may-act, relay-outcome}
use Rattle.hop_relay.proofs.SendLemmas.{first_send, middle_send, last_send}
use Rattle.hop_relay.proofs.run.run_relay.Goals as goal

pub run_actors-requires-send-A : goal.run_actors-requires-send-A
run_actors-requires-send-A g c κs within = search (sendable, first_send, middle_send, last_send) depth 12

pub run_actors-requires-after_bounds : goal.run_actors-requires-after_bounds
run_actors-requires-after_bounds g c κs within =
    let board = c.in_ok-board in
    may-act (contents c.args.packets.items) c.args.hops c.args.size board.board c.in_ok-actors.actors.items c.requires.hops board.ensures.board board.ensures.bare board.ensures.lawful c.in_ok-actors.ensures

pub returns : goal.returns
returns g c =
    let board = c.in_ok-board in
    let ran = c.in_ok-scenario in
    relay-outcome (contents c.args.packets.items) c.args.hops c.args.size board.board c.in_ok-actors.actors.items ran.scenario ran.outcome ran._actors.items board.ensures.board c.in_ok-actors.ensures ran.ensures
