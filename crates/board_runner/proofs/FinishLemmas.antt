-- A board at its end: its stations are found by their numbers, and are in the states that their journals leave.
use Rattle.std.proofs.Common.{◌≡◌, List, [], ◌∷◌, map, Some, find, sym, ap, ◌∙◌, subst}
use Rattle.std.specs.List.{AllByRecursion}
use Rattle.std.proofs.lemmas.Simd.{map-map}
use Rattle.board_model.specs.declared.scenario.DomainLine.{DomainLine}
use Rattle.board_model.specs.declared.scenario.Scenario.{Scenario}
use Rattle.board_model.specs.Scenario.{script, rising, neighbours}
use Rattle.board_model.specs.LinkedBoard.{Differ, IsLinkedBoard}
use Rattle.board_model.specs.Run.{start, left_by}
use Rattle.board_model.specs.State.{DomainState}
use Rattle.board_model.specs.SerialRun.{Station, is_station, finished}
use Rattle.board_model.proofs.MessageAlls.{all-weaken}
use Rattle.board_model.proofs.ListsApart.{differ-found}
use Rattle.board_model.proofs.PlaceBoards.{rising_differ}
use Rattle.board_model.proofs.WholeJournals.{leads_to}
use Rattle.board_model.proofs.WholeBoard.{serial_run_is_whole, finished_going}
use Rattle.board_numbers.specs.Tallied.{RanBoard}
use Rattle.board_runner.specs.declared.station.Station as code
use Rattle.board_runner.specs.Stations.{AreStations}

-- ---- the serial run is one

known_peers : (s : Scenario) (ts : List Station) (sts : List code.Station) → AreStations s ts sts → AllByRecursion (λ t. map (λ p. p.number) t.run.state.peers ≡ map (λ n. n.number) (neighbours s t.line)) ts
known_peers s [] [] are = tt
known_peers s [] (st ∷ sts) are = absurd are
known_peers s (t ∷ ts) [] are = absurd are
known_peers s (t ∷ ts) (st ∷ sts) are = (ap (λ (x : DomainState). map (λ p. p.number) x.peers) (sym are.0.state) ∙ are.0.peers, known_peers s ts sts are.1)

pub finished_ran : (s : Scenario) → IsLinkedBoard s → (sts : List code.Station) → AreStations s (finished s).stations sts → RanBoard s (finished s).stations
finished_ran s board sts are =
    let ts = (finished s).stations in
    let going = finished_going s board in
    let numbers : map (λ (d : DomainLine). d.domain) (rising s) ≡ map (λ (t : Station). t.line.domain) ts = ap (map (λ (d : DomainLine). d.domain)) (sym going.domains) ∙ map-map (λ (d : DomainLine). d.domain) (λ (t : Station). t.line) ts in
    record {
      run = (serial_run_is_whole s board).0;
      led =
          all-weaken (λ t. find (is_station t.line.domain) ts ≡ Some t) (λ t. t.run ≡ left_by s t.line t.entries)
          (λ t found. leads_to (script s t.line.domain) (start s t.line) t.run t.entries (going.each t.line.domain t found).leads) ts
          (differ-found (λ (t : Station). t.line.domain) ts (subst Differ numbers (rising_differ s board)));
      peers = known_peers s ts sts are;
    }
