-- Actors with the stations of their domains.
-- Source: docs/PROFILE.md, "Actors".
use Rattle.std.specs.Prelude.{◌≡◌, List, [], ◌∷◌}
use Rattle.board_runner.specs.declared.actors.ActorJob.{ActorJob}
use Rattle.board_runner.specs.declared.station.Station.{Station}

-- one job for each actor and its station
abbrev pub AreActorJobs : {A : Type 0} → List A → List Station → List (ActorJob A) → Type 0
AreActorJobs [] [] [] = Unit {0}
AreActorJobs (a ∷ actors) (st ∷ sts) (j ∷ js) = (j.actor ≡ a) × (j.station ≡ st) × AreActorJobs actors sts js
AreActorJobs actors sts js = ⊥
