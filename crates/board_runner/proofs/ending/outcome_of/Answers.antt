use Rattle.std.proofs.Common.{◌≡◌, List, map, sym, ◌∙◌, subst}
use Rattle.board_model.specs.declared.scenario.Scenario.{Scenario}
use Rattle.board_model.specs.SerialRun.{finished}
use Rattle.board_model.proofs.LawfulBoards.{lawful_is_linked}
use Rattle.board_numbers.specs.declared.tally.Tally.{Tally}
use Rattle.board_numbers.specs.EndedDomains.{EndAs}
use Rattle.board_numbers.specs.Tallied.{AreTallies}
use Rattle.board_runner.specs.declared.station.Station as code
use Rattle.board_runner.specs.EndedStations.{TellStations, ended_station}
use Rattle.board_runner.specs.Stations.{AreStations}
use Rattle.board_runner.proofs.FinishLemmas.{finished_ran}
use Rattle.board_runner.proofs.TallyLemmas.{stations-ended, stations-tallied, stations-told}
use Rattle.board_runner.proofs.ending.outcome_of.Goals as goal

-- the tallies are those of the serial run
tallied : (s : Scenario) (sts borrowed : List code.Station) (ys read : List Tally) → AreStations s (finished s).stations sts → borrowed ≡ sts → TellStations borrowed ys → read ≡ ys → AreTallies s (finished s).stations read
tallied s sts borrowed ys read are same tell as_read = subst (AreTallies s (finished s).stations) (sym as_read) (stations-tallied s (finished s).stations sts ys are (subst (λ (xs : List code.Station). TellStations xs ys) same tell))

pub places_of-requires-clause-tallies : goal.places_of-requires-clause-tallies
places_of-requires-clause-tallies c =
    let s = c.args.scenario.now in
    record {
      stations = (finished s).stations;
      ran = finished_ran s (lawful_is_linked s c.requires.lawful) c.args.stations.items c.requires.run.each;
      tallies = tallied s c.args.stations.items _ c.in_ok-tallies.tallies _ c.requires.run.each c.deref.ensures.value c.in_ok-tallies.ensures c.as_slice.ensures;
    }

-- and so are their stations
ended : (s : Scenario) (sts borrowed : List code.Station) → AreStations s (finished s).stations sts → borrowed ≡ sts → EndAs (finished s).stations (map ended_station borrowed)
ended s sts borrowed are same = subst (λ (xs : List code.Station). EndAs (finished s).stations (map ended_station xs)) (sym same) (stations-ended s (finished s).stations sts are)

pub totals_of-messages-requires-clause-tallies : goal.totals_of-messages-requires-clause-tallies
totals_of-messages-requires-clause-tallies c =
    let s = c.args.scenario.now in
    record {
      stations = (finished s).stations;
      ran = finished_ran s (lawful_is_linked s c.requires.lawful) c.args.stations.items c.requires.run.each;
      tallies = tallied s c.args.stations.items _ c.in_ok-tallies.tallies _ c.requires.run.each c.deref.ensures.value c.in_ok-tallies.ensures c.as_slice-2.ensures;
    }

pub returns-clause-told : goal.returns-clause-told
returns-clause-told c =
    let s = c.args.scenario.now in
    let ran = finished_ran s (lawful_is_linked s c.requires.lawful) c.args.stations.items c.requires.run.each in
    record {
      journals = c.in_ok-journals_of.ensures ∙ stations-told s (finished s).stations c.args.stations.items c.requires.run.each;
      places = c.in_ok-places.ensures (finished s).stations ran (tallied s c.args.stations.items _ c.in_ok-tallies.tallies _ c.requires.run.each c.deref.ensures.value c.in_ok-tallies.ensures c.as_slice.ensures);
      channels = c.in_ok-channels.ensures (finished s).stations ran (ended s c.args.stations.items _ c.requires.run.each c.deref-2.ensures.value);
      messages = c.totals_of-messages.ensures (finished s).stations ran (tallied s c.args.stations.items _ c.in_ok-tallies.tallies _ c.requires.run.each c.deref.ensures.value c.in_ok-tallies.ensures c.as_slice-2.ensures);
    }

pub returns-clause-rings : goal.returns-clause-rings
returns-clause-rings c = c.new-2.ensures ∙ c.new.ensures.items
