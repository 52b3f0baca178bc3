use Rattle.std.specs.Prelude.{IfOk, Result, Ok, Err}
use Rattle.mc_base.specs.declared.refusal.NoMemory.{NoMemory}
use Rattle.std.proofs.Common.{◌≡◌, List, map}
use Rattle.board_model.specs.declared.scenario.Scenario.{Scenario}
use Rattle.board_model.specs.Scenario.{rising}
use Rattle.board_model.specs.SerialRun.{opened}
use Rattle.board_numbers.specs.ToldChannels.{TellChannels}
use Rattle.board_runner.specs.declared.ended.Remains.{Remains}
use Rattle.board_runner.specs.declared.station.Station.{Station}
use Rattle.board_runner.specs.declared.wires.Wire.{Wire}
use Rattle.board_runner.specs.Apart.{RanApart}
use Rattle.board_runner.specs.Ended.{WiresEnd, wires_left}
use Rattle.board_runner.specs.EndedStations.{TellStations, ended_station}
use Rattle.board_runner.specs.Jobs.{RunScripts}
use Rattle.board_runner.specs.Opened.{AreOpened}
use Rattle.board_runner.specs.Outcome.{lines_in}
use Rattle.board_runner.specs.Stations.{AreStations}
use Rattle.board_runner.proofs.EndedLemmas.{opened-begins, stations-ringed}
use Rattle.board_runner.proofs.OwnBoardLemmas.{ran_alone, are_stations}
use Rattle.board_runner.proofs.threads.run_domains.Goals as goal

pub run_stations-requires-clause-begin : goal.run_stations-requires-clause-begin
run_stations-requires-clause-begin g c κs within = opened-begins c.args.scenario.now c.args.wires.items (rising c.args.scenario.now) c.in_ok-stations.stations.items c.in_ok-stations.ensures.opens

pub take_apart-requires-clause-rings : goal.take_apart-requires-clause-rings
take_apart-requires-clause-rings g c =
    let s = c.args.scenario.now in
    let olds = c.in_ok-stations.stations.items in
    let news = c.in_ok-ran.ran.items in
    let alone = ran_alone s olds news c.in_ok-stations.ensures.run.each c.in_ok-ran.ensures in
    stations-ringed s alone.stations news (are_stations s olds news alone)

-- the parts of what is left, together
apart : (s : Scenario) (ws : List Wire) (olds news : List Station) → AreOpened s ws (rising s) olds → AreStations s (opened s).stations olds → RunScripts s olds news → (r : Result Remains NoMemory) →
    IfOk r (λ left. TellStations news left.tallies) → IfOk r (λ left. TellChannels s (map ended_station news) left.channels) → IfOk r (λ left. lines_in left.journals ≡ map (λ st. st.journal.lines) news) → IfOk r (λ left. WiresEnd (wires_left news) left.links.items) → IfOk r (RanApart s ws)
apart s ws olds news opens begun ran (Ok left) tallies channels told ended = record { olds = olds; news = news; opens = opens; begun = begun; alone = ran_alone s olds news begun ran; tallies = tallies; channels = channels; told = told; ended = ended }
apart s ws olds news opens begun ran (Err e) tallies channels told ended = tt

pub returns : goal.returns
returns g c =
    apart c.args.scenario.now c.args.wires.items c.in_ok-stations.stations.items c.in_ok-ran.ran.items c.in_ok-stations.ensures.opens c.in_ok-stations.ensures.run.each c.in_ok-ran.ensures c.take_apart.result c.take_apart.ensures.tallies c.take_apart.ensures.channels c.take_apart.ensures.journals c.take_apart.ensures.links
