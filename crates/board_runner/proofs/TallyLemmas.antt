-- The tallies of the code's stations, their journals and their ends are those of the board's stations for which they stand.
use Rattle.std.proofs.Common.{◌≡◌, ℕ, zero, suc, ◌+◌, ◌<◌, List, [], ◌∷◌, ◌++◌, length, map, take, get_or, sum_by, refl, sym, ap, ◌∙◌, subst, arith, add-one}
use Rattle.board_model.specs.declared.scenario.Scenario.{Scenario}
use Rattle.board_model.specs.Scenario.{script}
use Rattle.board_model.specs.Journal.{joined}
use Rattle.board_model.specs.Tallies.{deleted_in}
use Rattle.board_model.specs.Report.{lines_of}
use Rattle.board_model.specs.SerialRun.{Station, journal_left}
use Rattle.board_numbers.specs.declared.tally.Tally.{Tally}
use Rattle.board_numbers.specs.Counts.{AreCounts}
use Rattle.board_numbers.specs.EndedDomains.{EndAs}
use Rattle.board_numbers.specs.Tallied.{AreHeld, IsTally, AreTallies}
use Rattle.board_runner.specs.declared.station.Station as code
use Rattle.board_runner.specs.EndedStations.{TellsStation, TellStations, ended_station}
use Rattle.board_runner.specs.Stations.{IsStation, AreStations}

tell_next : (sts : List code.Station) (ys : List Tally) (i : ℕ) (st : code.Station) (y : Tally) → i < length sts → st ≡ get_or sts i st → TellStations (take i sts) ys → TellsStation st y → TellStations (take (suc i) sts) (ys ++ y ∷ [])
tell_next [] ys i st y within is front here = absurd (omega (arith, within))
tell_next (x ∷ sts) [] zero st y within is front here = (subst (λ (z : code.Station). TellsStation z y) is here, tt)
tell_next (x ∷ sts) (z ∷ ys) zero st y within is front here = absurd front
tell_next (x ∷ sts) [] (suc i) st y within is front here = absurd front
tell_next (x ∷ sts) (z ∷ ys) (suc i) st y within is front here = (front.0, tell_next sts ys i st y (omega (arith, within)) is front.1 here)

-- one tally more
pub tell-more : (sts : List code.Station) (ys : List Tally) (i : ℕ) (st : code.Station) (y : Tally) → i < length sts → st ≡ get_or sts i st → TellStations (take i sts) ys → TellsStation st y → TellStations (take (i + 1) sts) (ys ++ y ∷ [])
tell-more sts ys i st y within is front here = subst (λ k. TellStations (take k sts) (ys ++ y ∷ [])) (sym (add-one i)) (tell_next sts ys i st y within is front here)

station_tally : (s : Scenario) (t : Station) (st : code.Station) (y : Tally) → IsStation s t st → TellsStation st y → IsTally s t y
station_tally s t st y is tells = record {
  counts = subst (AreCounts y.counts) is.told tells.counts;
  deleted = tells.deleted ∙ is.dropped ∙ ap (sum_by (deleted_in (script s t.line.domain))) is.told;
  held = subst (λ x. AreHeld x y.held) is.state tells.held;
}

-- the tallies of the code's stations are those of the run
pub stations-tallied : (s : Scenario) (ts : List Station) (sts : List code.Station) (ys : List Tally) → AreStations s ts sts → TellStations sts ys → AreTallies s ts ys
stations-tallied s [] [] [] are tell = tt
stations-tallied s [] [] (y ∷ ys) are tell = absurd tell
stations-tallied s [] (st ∷ sts) ys are tell = absurd are
stations-tallied s (t ∷ ts) [] ys are tell = absurd are
stations-tallied s (t ∷ ts) (st ∷ sts) [] are tell = absurd tell
stations-tallied s (t ∷ ts) (st ∷ sts) (y ∷ ys) are tell = (station_tally s t st y are.0 tell.0, stations-tallied s ts sts ys are.1 tell.1)

-- and so are their journals
pub stations-told : (s : Scenario) (ts : List Station) (sts : List code.Station) → AreStations s ts sts → map (λ (st : code.Station). st.journal.lines) sts ≡ map lines_of (map journal_left ts)
stations-told s [] [] are = refl
stations-told s [] (st ∷ sts) are = absurd are
stations-told s (t ∷ ts) [] are = absurd are
stations-told s (t ∷ ts) (st ∷ sts) are = ap (λ l. l ∷ map (λ (x : code.Station). x.journal.lines) sts) are.0.told ∙ ap (λ ls. joined t.entries ∷ ls) (stations-told s ts sts are.1)

-- and so do they end
pub stations-ended : (s : Scenario) (ts : List Station) (sts : List code.Station) → AreStations s ts sts → EndAs ts (map ended_station sts)
stations-ended s [] [] are = tt
stations-ended s [] (st ∷ sts) are = absurd are
stations-ended s (t ∷ ts) [] are = absurd are
stations-ended s (t ∷ ts) (st ∷ sts) are = (record { told = are.0.told; state = are.0.state; number = are.0.domain_number }, stations-ended s ts sts are.1)
