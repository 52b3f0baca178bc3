-- What is left of a board whose domains ran on their own, each over its ends of the board's rings.
-- Source: docs/PROFILE.md, "Runs".
use Rattle.std.specs.Prelude.{◌≡◌, List, map}
use Rattle.board_model.specs.declared.scenario.Scenario.{Scenario}
use Rattle.board_model.specs.Scenario.{rising}
use Rattle.board_model.specs.SerialRun.{opened}
use Rattle.board_numbers.specs.ToldChannels.{TellChannels}
use Rattle.board_runner.specs.declared.ended.Remains.{Remains}
use Rattle.board_runner.specs.declared.rings.LinkHalves.{LinkHalves}
use Rattle.board_runner.specs.declared.rings.LinkRings.{LinkRings}
use Rattle.board_runner.specs.declared.station.Station.{Station}
use Rattle.board_runner.specs.declared.wires.Wire.{Wire}
use Rattle.board_runner.specs.Ended.{WiresEnd, wires_left}
use Rattle.board_runner.specs.EndedStations.{TellStations, ended_station}
use Rattle.board_runner.specs.Opened.{AreOpened}
use Rattle.board_runner.specs.Outcome.{lines_in}
use Rattle.board_runner.specs.OwnBoard.{RanAlone}
use Rattle.board_runner.specs.Stations.{AreStations}
use Rattle.board_runner.specs.Wired.{AreRings, wires_for}

-- stations that were opened with these links ran, and this is left of them
pub record RanApart (s : Scenario) (ws : List Wire) (left : Remains) : Type 0 where
  pub olds : List Station
  pub news : List Station
  pub opens : AreOpened s ws (rising s) olds
  pub begun : AreStations s (opened s).stations olds
  pub alone : RanAlone s olds news
  pub tallies : TellStations news left.tallies
  pub channels : TellChannels s (map ended_station news) left.channels
  pub told : lines_in left.journals ≡ map (λ st. st.journal.lines) news
  pub ended : WiresEnd (wires_left news) left.links.items

-- and so they ran over these rings of the board's links
pub record RanOver (s : Scenario) (rings : List LinkRings) (left : Remains) : Type 0 where
  pub halves : List LinkHalves
  pub new : AreRings s.links rings halves
  pub apart : RanApart s (wires_for s.links rings) left
