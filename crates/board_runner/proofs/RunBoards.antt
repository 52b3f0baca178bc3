-- The stations of a board, whatever its domains did: their numbers, their peers and their ends.
use Rattle.std.proofs.Common.{◌≡◌, ℕ, zero, suc, List, [], ◌∷◌, map, slice_get, slice_set, Some, refl, sym, ap₂, subst}
use Rattle.board_model.specs.declared.scenario.DomainLine.{DomainLine}
use Rattle.board_model.specs.declared.scenario.Scenario.{Scenario}
use Rattle.board_model.specs.LinkedBoard.{Differ, IsLinkedBoard}
use Rattle.board_model.specs.Scenario.{rising}
use Rattle.board_model.specs.SerialRun as run
use Rattle.board_model.specs.SerialRun.{Running}
use Rattle.board_model.proofs.PlaceBoards.{rising_differ}
use Rattle.board_runner.specs.declared.station.Station.{Station}
use Rattle.board_runner.specs.Near.{peers_of, EndsMatch}
use Rattle.board_runner.specs.Stations.{IsStation, AreStations, IsRun, IsOnBoard, AreOnBoard, IsBoard}
use Rattle.board_runner.proofs.RunFinds.{some_same}
use Rattle.board_runner.proofs.RunStations.{number_in, station-number}

-- a run's stations are those of its board
station_on : (s : Scenario) (t : run.Station) (st : Station) → IsStation s t st → IsOnBoard s t.line st
station_on s t st h = record { number = station-number s t st h; domain_number = h.domain_number; peers = h.peers; matched = h.matched }

stations_on : (s : Scenario) (ts : List run.Station) (sts : List Station) → AreStations s ts sts → AreOnBoard s (map (λ t. t.line) ts) sts
stations_on s [] [] are = tt
stations_on s [] (st ∷ sts) are = absurd are
stations_on s (t ∷ ts) [] are = absurd are
stations_on s (t ∷ ts) (st ∷ sts) are = (station_on s t st are.0, stations_on s ts sts are.1)

pub run-board : (s : Scenario) (r : Running) (sts : List Station) → IsRun s r sts → IsBoard s sts
run-board s r sts h = record { each = subst (λ (ds : List DomainLine). AreOnBoard s ds sts) h.lines (stations_on s r.stations sts h.each); joins = h.joins }

-- ---- the station at a place

pub record OnBoardAt (s : Scenario) (ds : List DomainLine) (i : ℕ) (st : Station) : Type 0 where
  pub line : DomainLine
  pub at : slice_get ds i ≡ Some line
  pub is : IsOnBoard s line st

on-board-at : (s : Scenario) (ds : List DomainLine) (sts : List Station) (i : ℕ) (st : Station) → AreOnBoard s ds sts → slice_get sts i ≡ Some st → OnBoardAt s ds i st
on-board-at s [] [] i st are at = absurd cc
on-board-at s [] (u ∷ us) i st are at = absurd are
on-board-at s (d ∷ ds) [] i st are at = absurd are
on-board-at s (d ∷ ds) (u ∷ us) zero st are at = let same : u ≡ st = some_same (Some u) u st refl at in record { line = d; at = refl; is = subst (IsOnBoard s d) same are.0 }
on-board-at s (d ∷ ds) (u ∷ us) (suc i) st are at = let rest = on-board-at s ds us i st are.1 at in record { line = rest.line; at = rest.at; is = rest.is }

numbers_are : (s : Scenario) (ds : List DomainLine) (sts : List Station) → AreOnBoard s ds sts → map number_in sts ≡ map (λ d. d.domain) ds
numbers_are s [] [] are = refl
numbers_are s [] (u ∷ us) are = absurd are
numbers_are s (d ∷ ds) [] are = absurd are
numbers_are s (d ∷ ds) (u ∷ us) are = ap₂ (λ (n : ℕ) (ns : List ℕ). n ∷ ns) are.0.number (numbers_are s ds us are.1)

module _ (s : Scenario) (sts : List Station) (b : IsBoard s sts) where
  pub board-at : (i : ℕ) (st : Station) → slice_get sts i ≡ Some st → OnBoardAt s (rising s) i st
  board-at i st at = on-board-at s (rising s) sts i st b.each at

  pub board-numbers : map number_in sts ≡ map (λ d. d.domain) (rising s)
  board-numbers = numbers_are s (rising s) sts b.each

  pub board-differ : IsLinkedBoard s → Differ (map number_in sts)
  board-differ board = subst Differ (sym board-numbers) (rising_differ s board)

  pub matched-at : (i : ℕ) (st : Station) → slice_get sts i ≡ Some st → EndsMatch (number_in st) (peers_of st.domain) st.domain.ends
  matched-at i st at = let t = board-at i st at in subst (λ (n : ℕ). EndsMatch n (peers_of st.domain) st.domain.ends) (sym t.is.number) t.is.matched

-- ---- another station in its place

pub stations-put : (s : Scenario) (ds : List DomainLine) (sts : List Station) (i : ℕ) (st st' : Station) → AreOnBoard s ds sts → slice_get sts i ≡ Some st → ((d : DomainLine) → IsOnBoard s d st → IsOnBoard s d st') → AreOnBoard s ds (slice_set sts i st')
stations-put s [] [] i st st' are at keeps = tt
stations-put s [] (u ∷ us) i st st' are at keeps = absurd are
stations-put s (d ∷ ds) [] i st st' are at keeps = absurd are
stations-put s (d ∷ ds) (u ∷ us) zero st st' are at keeps = let is : u ≡ st = some_same (Some u) u st refl at in (keeps d (subst (IsOnBoard s d) is are.0), are.1)
stations-put s (d ∷ ds) (u ∷ us) (suc i) st st' are at keeps = (are.0, stations-put s ds us i st st' are.1 at keeps)
