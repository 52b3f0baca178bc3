-- A board that ran: its stations are found by their numbers, and are in the states that their journals leave.
use Rattle.std.proofs.Common.{◌≡◌, ℕ, List, map, Some, find, sym, ap, ◌∙◌, subst}
use Rattle.std.specs.List.{AllByRecursion}
use Rattle.std.proofs.lemmas.Simd.{map-map}
use Rattle.board_model.specs.declared.scenario.DomainLine.{DomainLine}
use Rattle.board_model.specs.declared.scenario.Scenario.{Scenario}
use Rattle.board_model.specs.Scenario.{rising}
use Rattle.board_model.specs.LinkedBoard.{Differ, IsLinkedBoard}
use Rattle.board_model.specs.Run.{left_by}
use Rattle.board_model.specs.Board.{DomainJournal}
use Rattle.board_model.specs.SerialRun.{Station, is_station, journal_left}
use Rattle.board_model.proofs.MessageAlls.{all-found}
use Rattle.board_model.proofs.ListsApart.{differ-found}
use Rattle.board_model.proofs.PlaceBoards.{rising_differ}
use Rattle.board_numbers.specs.Tallied.{RanBoard}

-- the numbers of the stations are those of the domains
pub stations_numbers : (s : Scenario) (ts : List Station) → RanBoard s ts → map (λ d. d.domain) (rising s) ≡ map (λ (t : Station). t.line.domain) ts
stations_numbers s ts ran = ap (map (λ (d : DomainLine). d.domain)) (sym ran.run.each_domain ∙ map-map (λ (j : DomainJournal). j.line) journal_left ts) ∙ map-map (λ (d : DomainLine). d.domain) (λ (t : Station). t.line) ts

pub stations_found : (s : Scenario) → IsLinkedBoard s → (ts : List Station) → RanBoard s ts → AllByRecursion (λ t. find (is_station t.line.domain) ts ≡ Some t) ts
stations_found s board ts ran = differ-found (λ (t : Station). t.line.domain) ts (subst Differ (stations_numbers s ts ran) (rising_differ s board))

-- a station is where its entries lead
pub station_left : (s : Scenario) (ts : List Station) → RanBoard s ts → (n : ℕ) (t : Station) → find (is_station n) ts ≡ Some t → t.run ≡ left_by s t.line t.entries
station_left s ts ran n t found = all-found (λ (x : Station). x.run ≡ left_by s x.line x.entries) (is_station n) ts t ran.led found
