use Rattle.std.proofs.Common.{◌≡◌, List, map, sym, subst, ap, ◌∙◌, refl}
use Rattle.std.specs.List.{AllByRecursion}
use Rattle.board_model.specs.declared.scenario.Scenario.{Scenario}
use Rattle.board_model.specs.Language.{IsLawfulBoard}
use Rattle.board_model.specs.Scenario.{rising}
use Rattle.board_numbers.specs.ToldChannels.{TellChannels}
use Rattle.board_runner.specs.declared.acting.Acted.{Acted}
use Rattle.board_runner.specs.declared.station.Station.{Station}
use Rattle.board_runner.specs.Ended.{HasRings, WiresEnd, wires_left}
use Rattle.board_runner.specs.EndedStations.{TellStations, ended_station}
use Rattle.board_runner.specs.Outcome.{lines_in}
use Rattle.board_runner.proofs.ActorBoards.{are-left, left-ringed}
use Rattle.board_runner.proofs.ActorPlaces.{made-lawful, may-start}
use Rattle.board_runner.proofs.actors.act_domains.Goals as goal

pub act_all-requires-after_bounds : goal.act_all-requires-after_bounds
act_all-requires-after_bounds g c κs within =
    may-start g.A.Actor c.args.board.now c.args.wires.items (rising c.args.board.now) c.args.actors.items c.in_ok-stations.stations.items c.requires.may.ready c.in_ok-stations.ensures.opens c.requires.may.few

pub take_apart-requires-clause-lawful : goal.take_apart-requires-clause-lawful
take_apart-requires-clause-lawful g c =
    subst (λ (s : Scenario). IsLawfulBoard s) (sym c.in_ok-scenario.ensures.scenario)
    (made-lawful g.A.Actor c.args.board.now c.args.wires.items c.args.actors.items c.in_ok-stations.stations.items c.in_ok-acted.acted.items c.requires.may c.in_ok-stations.ensures.opens c.in_ok-acted.ensures)

pub take_apart-requires-clause-rings : goal.take_apart-requires-clause-rings
take_apart-requires-clause-rings g c =
    subst (AllByRecursion HasRings) (sym c.in_ok-scenario.ensures.stations)
    (left-ringed g.A.Actor c.args.board.now c.args.wires.items c.args.actors.items c.in_ok-stations.stations.items c.in_ok-acted.acted.items c.requires.may c.in_ok-stations.ensures.opens c.in_ok-stations.ensures.run.each c.in_ok-acted.ensures)

pub returns : goal.returns
returns g c =
    let lefts = c.in_ok-acted.acted.items in
    let gathered = c.in_ok-scenario.ensures in
    let remains = c.in_ok-remains.remains in
    let told = c.in_ok-remains.ensures in
    let news = map (λ (x : Acted _). x.station) lefts in
    are-left g.A.Actor c.args.board.now c.args.wires.items c.args.actors.items c.in_ok-stations.stations.items lefts c.requires.may c.in_ok-stations.ensures.opens c.in_ok-stations.ensures.run.each c.in_ok-acted.ensures remains
    (subst (λ (sts : List Station). TellStations sts remains.tallies) gathered.stations told.tallies)
    (subst (λ (s : Scenario). TellChannels s (map ended_station news) remains.channels) gathered.scenario
    (subst (λ (sts : List Station). TellChannels c.in_ok-scenario.scenario (map ended_station sts) remains.channels) gathered.stations told.channels))
    (subst (λ (sts : List Station). lines_in remains.journals ≡ map (λ st. st.journal.lines) sts) gathered.stations told.journals)
    (subst (λ (sts : List Station). WiresEnd (wires_left sts) remains.links.items) gathered.stations told.links)
    (record { scenario = c.in_ok-scenario.scenario; remains = remains; actors = c.in_ok-scenario.actors }) gathered.scenario refl gathered.actors
