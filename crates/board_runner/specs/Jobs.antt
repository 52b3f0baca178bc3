-- Stations whose scripts run on threads.
-- Source: docs/PROFILE.md, "Runs".
use Rattle.std.specs.Prelude.{◌≡◌, List, [], ◌∷◌}
use Rattle.board_model.specs.declared.scenario.Scenario.{Scenario}
use Rattle.board_model.specs.Language.{IsLawfulBoard}
use Rattle.board_runner.specs.declared.station.Station.{Station}
use Rattle.board_runner.specs.declared.threads.Job.{Job}
use Rattle.board_runner.specs.OwnRun.{HasNotBegun, RunsScript}

-- one job for each station, all of one scenario, whatever their paces
abbrev pub AreJobs : {P : Type 0} → Scenario → List Station → List (Job P) → Type 0
AreJobs s [] [] = Unit {0}
AreJobs s (st ∷ sts) (j ∷ js) = (j.scenario.now ≡ s) × (j.station ≡ st) × AreJobs s sts js
AreJobs s sts js = ⊥

-- before it
pub record MayRun {P : Type 0} (j : Job P) : Type 0 where
  pub lawful : IsLawfulBoard j.scenario.now
  pub begins : HasNotBegun j.station

-- and after it
abbrev pub RunsJob : {P : Type 0} → Job P → Station → Type 0
RunsJob j st = RunsScript j.scenario.now j.station st

-- whatever domain stood at each place, its script was run there
abbrev pub RunScripts : Scenario → List Station → List Station → Type 0
RunScripts s [] [] = Unit {0}
RunScripts s (old ∷ olds) (new ∷ news) = RunsScript s old new × RunScripts s olds news
RunScripts s olds news = ⊥
