-- Actors that run the domains of a board: when they may, and what they leave. `actor` has what is told of an actor: `A.Actor` under `A: Actor`.
-- Source: docs/PROFILE.md, "Actors".
use Rattle.std.specs.Prelude.{◌≡◌, ◌<◌, ◌^◌, ℕ, List, [], ◌∷◌, map, sum_by, None}
use Rattle.std.specs.List.{flat_map}
use Rattle.board_model.specs.declared.scenario.DomainLine.{DomainLine}
use Rattle.board_model.specs.declared.scenario.Scenario.{Scenario}
use Rattle.board_model.specs.Board.{DomainJournal}
use Rattle.board_model.specs.Language.{IsLawfulBoard}
use Rattle.board_model.specs.Logs.{log_of}
use Rattle.board_model.specs.Scenario.{rising, script}
use Rattle.board_runner.specs.declared.actor.Actor.{Ghosts}
use Rattle.board_runner.specs.declared.outcome.Outcome.{Outcome}
use Rattle.board_runner.specs.ActorLogs.{lines_in_log}
use Rattle.board_runner.specs.ThreadRun.{IsThreadRun}

-- ---- before

-- an actor may begin in a domain: it is of this domain, nothing was asked, and it fits the empty log
pub record IsReady {A R : Type 0} (actor : Ghosts A R) (domain : ℕ) (a : A) : Type 0 where
  pub own : actor.domain a ≡ domain
  pub asked : actor.asked a ≡ None
  pub fits : actor.Fits a []

-- there is one for each of these domains, in their order
abbrev pub AreReady : {A R : Type 0} → Ghosts A R → List DomainLine → List A → Type 0
AreReady actor [] [] = Unit {0}
AreReady actor (d ∷ ds) (a ∷ actors) = IsReady actor d.domain a × AreReady actor ds actors
AreReady actor ds actors = ⊥

-- a lawful board without lines, one actor for each of its domains in rising number, and so few lines to come that a scenario may have them
pub record MayAct {A R : Type 0} (actor : Ghosts A R) (board : Scenario) (actors : List A) : Type 0 where
  pub lawful : IsLawfulBoard board
  pub bare : board.calls ≡ []
  pub ready : AreReady actor (rising board) actors
  pub few : sum_by actor.todo actors < 2 ^ 32

-- ---- after

-- the actor is the one that was handed in, its log is that of the domain's journal, in which each line has its answer, and it gives no more
pub record HasEnded {A R : Type 0} (actor : Ghosts A R) (s : Scenario) (first : A) (j : DomainJournal) (now : A) : Type 0 where
  pub role : actor.role now ≡ actor.role first
  pub whole : lines_in_log (log_of s j) ≡ script s j.line.domain
  pub fits : actor.Fits now (log_of s j)
  pub ends : actor.Ends now (log_of s j)

abbrev pub AllHaveEnded : {A R : Type 0} → Ghosts A R → Scenario → List A → List DomainJournal → List A → Type 0
AllHaveEnded actor s [] [] [] = Unit {0}
AllHaveEnded actor s (first ∷ firsts) (j ∷ js) (now ∷ nows) = HasEnded actor s first j now × AllHaveEnded actor s firsts js nows
AllHaveEnded actor s firsts js nows = ⊥

-- the board's domains and links, and then the scripts of its domains in rising number
pub record HasScripts (board s : Scenario) : Type 0 where
  pub domains : s.domains ≡ board.domains
  pub links : s.links ≡ board.links
  pub lines : s.calls ≡ flat_map (λ d. script s d.domain) (rising board)

-- the scenario that the actors made while it ran is lawful, its run is whole, and each actor has ended with its domain's journal
pub record HaveActed {A R : Type 0} (actor : Ghosts A R) (board : Scenario) (firsts : List A) (s : Scenario) (o : Outcome) (nows : List A) : Type 0 where
  pub scripts : HasScripts board s
  pub lawful : IsLawfulBoard s
  pub run : IsThreadRun s o
  pub ended : AllHaveEnded actor s firsts run.journals nows
