-- Jobs place by place: each may run, and what they leave is what their stations leave.
use Rattle.std.proofs.Common.{◌≡◌, ℕ, zero, suc, ◌<◌, List, [], ◌∷◌, ◌++◌, length, map, refl, sym, subst, arith}
use Rattle.std.specs.Prelude.{IfOk, Result, Ok, Err, slice_index_or}
use Rattle.std.specs.List.{AllByRecursion}
use Rattle.mc_base.specs.declared.refusal.NoMemory.{NoMemory}
use Rattle.board_model.specs.declared.scenario.Scenario.{Scenario}
use Rattle.board_model.specs.Language.{IsLawfulBoard}
use Rattle.board_runner.specs.declared.station.Station.{Station}
use Rattle.board_runner.specs.declared.threads.Job.{Job}
use Rattle.board_runner.specs.Jobs.{AreJobs, MayRun, RunsJob, RunScripts}
use Rattle.board_runner.specs.OwnRun.{HasNotBegun, RunsScript}

pub jobs_more : {P : Type 0} (s : Scenario) (sts : List Station) (js : List (Job P)) (st : Station) (j : Job P) → AreJobs s sts js → j.scenario.now ≡ s → j.station ≡ st → AreJobs s (sts ++ st ∷ []) (js ++ j ∷ [])
jobs_more s [] [] st j are scenario station = (scenario, station, tt)
jobs_more s [] (x ∷ js) st j are scenario station = absurd are
jobs_more s (y ∷ sts) [] st j are scenario station = absurd are
jobs_more s (y ∷ sts) (x ∷ js) st j are scenario station = (are.0, are.1, jobs_more s sts js st j are.2 scenario station)

pub jobs_may : {P : Type 0} (s : Scenario) → IsLawfulBoard s → (sts : List Station) (js : List (Job P)) → AreJobs s sts js → AllByRecursion HasNotBegun sts → (i : ℕ) (j : Job P) → i < length js → j ≡ slice_index_or js i j → MayRun j
jobs_may s lawful [] [] are begin i j within is = absurd (omega (arith, within))
jobs_may s lawful [] (x ∷ js) are begin i j within is = absurd are
jobs_may s lawful (st ∷ sts) [] are begin i j within is = absurd are
jobs_may s lawful (st ∷ sts) (x ∷ js) are begin zero j within is =
    subst MayRun (sym is) (record { lawful = subst IsLawfulBoard (sym are.0) lawful; begins = subst HasNotBegun (sym are.1) begin.0 })
jobs_may s lawful (st ∷ sts) (x ∷ js) are begin (suc i) j within is = jobs_may s lawful sts js are.2 begin.1 i j (omega (arith, within)) is

-- results that are all `Ok`
abbrev pub oks : List Station → List (Result Station NoMemory)
oks news = map Ok news

pub ok_weaker : {A : Type 0} {P Q : A → Type 0} (r : Result A NoMemory) → IfOk r P → ((x : A) → P x → Q x) → IfOk r Q
ok_weaker (Ok x) p f = f x p
ok_weaker (Err e) p f = tt

pub jobs_ran : {P : Type 0} (s : Scenario) (sts : List Station) (js : List (Job P)) (news : List Station) → AreJobs s sts js → length (oks news) ≡ length js
    → ((i : ℕ) (j : Job P) (d : Result Station NoMemory) → i < length js → j ≡ slice_index_or js i j → IfOk (slice_index_or (oks news) i d) (RunsJob j)) → RunScripts s sts news
jobs_ran s [] [] [] are many ran = tt
jobs_ran s [] [] (n ∷ news) are many ran = absurd (omega (arith, many))
jobs_ran s [] (x ∷ js) news are many ran = absurd are
jobs_ran s (st ∷ sts) [] news are many ran = absurd are
jobs_ran s (st ∷ sts) (x ∷ js) [] are many ran = absurd (omega (arith, many))
jobs_ran s (st ∷ sts) (x ∷ js) (n ∷ news) are many ran = (
  subst (λ (o : Station). RunsScript s o n) are.1 (subst (λ (z : Scenario). RunsScript z x.station n) are.0 (ran 0 x (Ok n) (omega arith) refl)),
  jobs_ran s sts js news are.2 (omega (arith, many)) (λ i j d within is. ran (suc i) j d (omega (arith, within)) is),
)
