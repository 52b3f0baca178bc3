-- A board whose domains ran their scripts on their own: what each did, whatever the others did meanwhile.
-- Source: docs/PROFILE.md, "Boards" and "Runs".
use Rattle.std.specs.Prelude.{◌≡◌, List, [], ◌∷◌, map}
use Rattle.board_model.specs.declared.scenario.Scenario.{Scenario}
use Rattle.board_model.specs.Scenario.{script, rising}
use Rattle.board_model.specs.Run.{start, left_by, IsDomainRun, IsWhole}
use Rattle.board_model.specs.SerialRun as run
use Rattle.board_runner.specs.declared.station.Station.{Station}
use Rattle.board_runner.specs.Near.{RunEnds, peers_of}
use Rattle.board_runner.specs.OwnRun.{MovedAsTold}
use Rattle.board_runner.specs.Stations.{IsStation}

-- a domain ran its script whole, from these ends on
pub record RanAs (s : Scenario) (t : run.Station) (ends : List RunEnds) (st : Station) : Type 0 where
  pub runs : IsDomainRun s t.line t.entries
  pub whole : IsWhole s t.line t.entries
  pub led : t.run ≡ left_by s t.line t.entries
  pub stands : IsStation s t st
  pub moves : MovedAsTold (script s t.line.domain) (start s t.line) (peers_of st.domain) t.entries ends st.domain.ends (start s t.line).state st.domain.numbered

-- each from the ends that its station had
abbrev pub AllRanAs : Scenario → List run.Station → List Station → List Station → Type 0
AllRanAs s [] [] [] = Unit {0}
AllRanAs s (t ∷ ts) (old ∷ olds) (new ∷ news) = RanAs s t old.domain.ends new × AllRanAs s ts olds news
AllRanAs s ts olds news = ⊥

-- the domains of the board did
pub record RanAlone (s : Scenario) (olds news : List Station) : Type 0 where
  pub stations : List run.Station
  pub lines : map (λ t. t.line) stations ≡ rising s
  pub ran : AllRanAs s stations olds news
