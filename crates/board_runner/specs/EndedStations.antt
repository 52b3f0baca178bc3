-- The stations of a board at their ends, as far as the board's numbers need them, and their tallies.
-- Source: docs/FORMATS.md, "Report".
use Rattle.std.specs.Prelude.{◌≡◌, List, [], ◌∷◌}
use Rattle.board_numbers.specs.declared.tally.Tally.{Tally}
use Rattle.board_numbers.specs.Counts.{AreCounts}
use Rattle.board_numbers.specs.EndedDomains.{Ended}
use Rattle.board_numbers.specs.Tallied.{AreHeld}
use Rattle.board_runner.specs.declared.station.Station.{Station}

-- a station at its end
abbrev pub ended_station : Station → Ended
ended_station st = record { number = st.domain_number; lines = st.journal.lines; state = st.domain.state }

-- its tally: what its journal counts, what it counted itself, and what its domain holds
pub record TellsStation (st : Station) (y : Tally) : Type 0 where
  pub counts : AreCounts y.counts st.journal.lines
  pub deleted : y.deleted ≡ st.dropped
  pub held : AreHeld st.domain.state y.held

-- one for each station
abbrev pub TellStations : List Station → List Tally → Type 0
TellStations [] [] = Unit {0}
TellStations (st ∷ sts) (y ∷ ys) = TellsStation st y × TellStations sts ys
TellStations sts ys = ⊥
