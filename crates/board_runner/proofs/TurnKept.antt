-- A turn of a domain whose visits are exact: the stations stand for the run after it.
use Rattle.std.proofs.Common.{◌≡◌, ℕ, List, map, Some}
use Rattle.std.specs.Prelude.{slice_get, slice_set}
use Rattle.lane_end.specs.AnySender.{AnySends}
use Rattle.lane_end.specs.AnyReceiver.{AnyReceives}
use Rattle.std.specs.List.{AllByRecursion}
use Rattle.board_model.specs.declared.scenario.Scenario.{Scenario}
use Rattle.board_model.specs.LinkedBoard.{IsLinkedBoard}
use Rattle.board_model.specs.Journal.{Visit, turned, noted}
use Rattle.board_model.specs.SerialRun.{Running, turned_once}
use Rattle.domain_core.specs.Ends.{EndsMoved}
use Rattle.domain_core.specs.Turned.{Turns}
use Rattle.mc_journal.specs.Written.{Written}
use Rattle.board_runner.specs.declared.station.Station.{Station}
use Rattle.board_runner.specs.Near.{RunDomain}
use Rattle.board_runner.specs.Stations.{IsRun, near}
use Rattle.board_runner.proofs.RunTurns.{run-turned}
use Rattle.board_runner.proofs.TurnEnds.{ExactAt}
use Rattle.board_runner.proofs.TurnStations.{turned_station}

pub turn_kept : (s : Scenario) → IsLinkedBoard s → (r : Running) (sts : List Station) → IsRun s r sts → (at : ℕ) (st : Station) (d : RunDomain) (j : Written) (n : ℕ) → slice_get sts at ≡ Some st →
    (visits : List Visit) (numbers : List (List ℕ)) → AllByRecursion (ExactAt (near (map (λ x. x.domain) sts)) st.domain) visits → Turns (EndsMoved AnySends AnyReceives) visits numbers st.domain d → j.lines ≡ noted st.journal.lines (turned visits) → st.domain.state.number ≡ n → IsRun s (turned_once s r n) (slice_set sts at (turned_station st d j))
turn_kept s board r sts run at st d j n is visits numbers exact turns told e = run-turned s board r sts at st visits numbers d j run is turns told exact n e
