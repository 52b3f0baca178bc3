-- The journals of domains that ran on their own are a run of the board where the two ends of each lane fit together.
use Rattle.std.proofs.Common.{◌≡◌, List, [], ◌∷◌, map, refl, sym, ap, ◌∙◌}
use Rattle.std.specs.List.{AllByRecursion}
use Rattle.std.proofs.lemmas.Simd.{map-map}
use Rattle.board_model.specs.declared.scenario.DomainLine.{DomainLine}
use Rattle.board_model.specs.declared.scenario.Scenario.{Scenario}
use Rattle.board_model.specs.Scenario.{rising, neighbours, lanes}
use Rattle.board_model.specs.State.{DomainState}
use Rattle.board_model.specs.Run.{left_by, IsDomainRun, IsWhole}
use Rattle.board_model.specs.Board.{DomainJournal, LaneFits, AreWhole}
use Rattle.board_model.specs.SerialRun as run
use Rattle.board_model.specs.SerialRun.{journal_left, opened_station, opened}
use Rattle.board_numbers.specs.Tallied.{RanBoard}
use Rattle.board_runner.specs.declared.station.Station.{Station}
use Rattle.board_runner.specs.OwnBoard.{RanAs, AllRanAs, RanAlone}
use Rattle.board_runner.specs.Jobs.{RunScripts}
use Rattle.board_runner.specs.OwnRun.{station_in}
use Rattle.board_runner.specs.Stations.{AreStations}

-- ---- the run of each

record RanLines (s : Scenario) (ds : List DomainLine) (olds news : List Station) : Type 0 where
  stations : List run.Station
  lines : map (λ t. t.line) stations ≡ ds
  ran : AllRanAs s stations olds news

ran_lines : (s : Scenario) (ds : List DomainLine) (olds news : List Station) → AreStations s (map (opened_station s) ds) olds → RunScripts s olds news → RanLines s ds olds news
ran_lines s [] [] [] begun ran = record { stations = []; lines = refl; ran = tt }
ran_lines s [] [] (n ∷ news) begun ran = absurd ran
ran_lines s [] (o ∷ olds) news begun ran = absurd begun
ran_lines s (d ∷ ds) [] news begun ran = absurd begun
ran_lines s (d ∷ ds) (o ∷ olds) [] begun ran = absurd ran
ran_lines s (d ∷ ds) (o ∷ olds) (n ∷ news) begun ran =
    let rest = ran_lines s ds olds news begun.1 ran.1 in
    let whole = ran.0 d begun.0 in
    record {
      stations = station_in d (left_by s d whole.entries) whole.entries ∷ rest.stations;
      lines = ap (λ (ls : List DomainLine). d ∷ ls) rest.lines;
      ran = (record { runs = whole.runs; whole = whole.whole; led = refl; stands = whole.stands; moves = whole.moves }, rest.ran);
    }

pub ran_alone : (s : Scenario) (olds news : List Station) → AreStations s (opened s).stations olds → RunScripts s olds news → RanAlone s olds news
ran_alone s olds news begun ran = let all = ran_lines s (rising s) olds news begun ran in record { stations = all.stations; lines = all.lines; ran = all.ran }

-- ---- the run of the board

-- what holds of each that ran
each_ran : (P : run.Station → Type 0) (s : Scenario) → ((t : run.Station) (old new : Station) → RanAs s t old.domain.ends new → P t) → (ts : List run.Station) (olds news : List Station) → AllRanAs s ts olds news → AllByRecursion P ts
each_ran P s one [] [] [] all = tt
each_ran P s one [] [] (n ∷ news) all = absurd all
each_ran P s one [] (o ∷ olds) news all = absurd all
each_ran P s one (t ∷ ts) [] news all = absurd all
each_ran P s one (t ∷ ts) (o ∷ olds) [] all = absurd all
each_ran P s one (t ∷ ts) (o ∷ olds) (n ∷ news) all = (one t o n all.0, each_ran P s one ts olds news all.1)

each_journal : (P : DomainJournal → Type 0) (ts : List run.Station) → AllByRecursion (λ t. P (journal_left t)) ts → AllByRecursion P (map journal_left ts)
each_journal P [] all = tt
each_journal P (t ∷ ts) all = (all.0, each_journal P ts all.1)

module _ (s : Scenario) (olds news : List Station) (h : RanAlone s olds news) where
  pub are_stations : AreStations s h.stations news
  are_stations = go h.stations olds news h.ran
    where
      go : (ts : List run.Station) (os ns : List Station) → AllRanAs s ts os ns → AreStations s ts ns
      go [] [] [] all = tt
      go [] [] (n ∷ ns) all = absurd all
      go [] (o ∷ os) ns all = absurd all
      go (t ∷ ts) [] ns all = absurd all
      go (t ∷ ts) (o ∷ os) [] all = absurd all
      go (t ∷ ts) (o ∷ os) (n ∷ ns) all = (all.0.stands, go ts os ns all.1)

  pub alone_whole : AreWhole s (map journal_left h.stations)
  alone_whole = each_journal (λ j. IsWhole s j.line j.entries) h.stations (each_ran (λ t. IsWhole s t.line t.entries) s (λ t o n ran. ran.whole) h.stations olds news h.ran)

  -- where the ends of each lane fit together
  pub alone_board : AllByRecursion (LaneFits s (map journal_left h.stations)) (lanes s) → RanBoard s h.stations
  alone_board fits = record {
    run = record {
      each_domain = map-map (λ (j : DomainJournal). j.line) journal_left h.stations ∙ h.lines;
      domain_runs = each_journal (λ j. IsDomainRun s j.line j.entries) h.stations (each_ran (λ t. IsDomainRun s t.line t.entries) s (λ t o n ran. ran.runs) h.stations olds news h.ran);
      lanes_fit = fits;
    };
    led = each_ran (λ t. t.run ≡ left_by s t.line t.entries) s (λ t o n ran. ran.led) h.stations olds news h.ran;
    peers =
        each_ran (λ t. map (λ p. p.number) t.run.state.peers ≡ map (λ n. n.number) (neighbours s t.line)) s
        (λ t o n ran. ap (λ (x : DomainState). map (λ p. p.number) x.peers) (sym ran.stands.state) ∙ ran.stands.peers) h.stations olds news h.ran;
  }
