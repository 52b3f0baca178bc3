-- An actor at the station of its domain: the lines that it gave, and what it was answered. `actor` has what is told of an actor: `A.Actor`
-- under `A: Actor`.
-- Source: docs/PROFILE.md, "Actors".
use Rattle.std.specs.Prelude.{◌≡◌, ℕ, ◌+◌, ◌-◌, ◌*◌, ◌≤◌, ◌<◌, ◌^◌, List, [], ◌∷◌, length, map, slice_get, Option, None, Some, IfSome, IfNone, option_and_then}
use Rattle.std.specs.List.{flat_map}
use Rattle.board_model.specs.declared.scenario.CallLine.{CallLine}
use Rattle.board_model.specs.declared.scenario.DomainLine.{DomainLine}
use Rattle.board_model.specs.declared.scenario.Scenario.{Scenario}
use Rattle.board_model.specs.Journal.{Line, call_line, PlainAnswer}
use Rattle.board_model.specs.Language.{IsLawfulBoard}
use Rattle.board_model.specs.Lists.{IsPrefix}
use Rattle.board_model.specs.Logs.{LoggedCall, answers_on, paired}
use Rattle.board_model.specs.Board.{DomainJournal}
use Rattle.board_model.specs.Report.{lines_of}
use Rattle.board_model.specs.Scenario.{rising, script}
use Rattle.board_model.specs.SerialRun.{opened_station}
use Rattle.board_runner.specs.declared.acting.Acted.{Acted}
use Rattle.board_runner.specs.declared.actor.Actor.{Ghosts}
use Rattle.board_runner.specs.declared.actors.ActorsLeft.{ActorsLeft}
use Rattle.board_runner.specs.declared.station.Station.{Station}
use Rattle.board_runner.specs.declared.wires.Wire.{Wire}
use Rattle.board_runner.specs.ActorLogs.{log_so_far, lines_in_log, MayFollow, AllFollow}
use Rattle.board_runner.specs.ActorRun.{AllHaveEnded, HasScripts, IsReady}
use Rattle.board_runner.specs.Apart.{RanApart}
use Rattle.board_runner.specs.Outcome.{lines_in}
use Rattle.board_runner.specs.OwnRun.{HasNotBegun, IsOnItsWay}
use Rattle.board_runner.specs.Stations.{IsStation}

-- ---- the station

-- a station has run these lines, on whatever board they begin the script of its domain. Each left an answer
pub record HasRun (first : Station) (lines : List CallLine) (now : Station) : Type 0 where
  pub runs : (s : Scenario) (d : DomainLine) → IsLawfulBoard s → IsPrefix lines (script s d.domain) → IsStation s (opened_station s d) first → IsOnItsWay s d first.domain.ends 0 now
  pub number : now.number ≡ length lines
  pub drops : now.dropped ≤ 2 ^ 32 * now.number
  pub domain_number : now.domain_number ≡ first.domain_number
  pub answers : length (answers_on now.journal.lines) ≡ length lines

-- the log of a station that has run these lines
abbrev pub log_at : List CallLine → Station → List LoggedCall
log_at lines st = paired lines (answers_on st.journal.lines)

-- the answer in the last line of a journal
abbrev pub answer_of_line : Line → Option PlainAnswer
answer_of_line (call_line k a) = Some a
answer_of_line other = None

abbrev pub last_answer : List Line → Option PlainAnswer
last_answer lines = option_and_then answer_of_line (slice_get lines (length lines - 1))

-- ---- the actor

abbrev pub lines_more : Option CallLine → ℕ
lines_more None = 0
lines_more (Some line) = 1

-- one call of `next`: what was told, the line that the actor gave, and the actor after it
pub record Asks {A R : Type 0} (actor : Ghosts A R) (old : A) (told : Option PlainAnswer) (next : Option CallLine) (new : A) : Type 0 where
  pub role : actor.role new ≡ actor.role old
  pub domain : actor.domain new ≡ actor.domain old
  pub asked : actor.asked new ≡ next
  pub falls : actor.todo new + lines_more next ≤ actor.todo old
  pub fits : (log : List LoggedCall) → actor.Fits old log → actor.Fits new (log_so_far log (actor.asked old) told)
  pub ends : IfNone next ((log : List LoggedCall) → actor.Fits old log → actor.Ends new (log_so_far log (actor.asked old) told))
  pub follows : IfSome next (λ line. (log : List LoggedCall) → actor.Fits old log → MayFollow (actor.domain old) (lines_in_log (log_so_far log (actor.asked old) told)) line)

-- since it was handed in as `first` an actor has had this log, and then gave a line, or none
pub record IsActing {A R : Type 0} (actor : Ghosts A R) (first : A) (log : List LoggedCall) (next : Option CallLine) (now : A) : Type 0 where
  pub role : actor.role now ≡ actor.role first
  pub domain : actor.domain now ≡ actor.domain first
  pub asked : actor.asked now ≡ next
  pub left : length log + actor.todo now + lines_more next ≤ actor.todo first
  pub fits : actor.Fits now log
  pub ends : IfNone next (actor.Ends now log)
  pub follows : IfSome next (MayFollow (actor.domain first) (lines_in_log log))
  pub gave : AllFollow (actor.domain first) [] (lines_in_log log)

-- ---- both

-- an actor may begin at a station
pub record MayStart {A R : Type 0} (actor : Ghosts A R) (a : A) (st : Station) : Type 0 where
  pub ready : IsReady actor st.domain_number a
  pub few : actor.todo a < 2 ^ 32
  pub begins : HasNotBegun st
  pub empty : st.journal.lines ≡ []

abbrev pub AllMayStart : {A R : Type 0} → Ghosts A R → List A → List Station → Type 0
AllMayStart actor [] [] = Unit {0}
AllMayStart actor (a ∷ actors) (st ∷ sts) = MayStart actor a st × AllMayStart actor actors sts
AllMayStart actor actors sts = ⊥

-- an actor has given its lines to its station, which has run them, and gives no more
pub record HasActed {A R : Type 0} (actor : Ghosts A R) (first : A) (st : Station) (left : Acted A) : Type 0 where
  pub ran : HasRun st left.lines.items left.station
  pub acted : IsActing actor first (log_at left.lines.items left.station) None left.actor

abbrev pub AllActed : {A R : Type 0} → Ghosts A R → List A → List Station → List (Acted A) → Type 0
AllActed actor [] [] [] = Unit {0}
AllActed actor (a ∷ actors) (st ∷ sts) (left ∷ lefts) = HasActed actor a st left × AllActed actor actors sts lefts
AllActed actor actors sts lefts = ⊥

-- ---- what is left of all

-- the lines of all, one actor after the other
abbrev pub lines_acted : {A : Type 0} → List (Acted A) → List CallLine
lines_acted lefts = flat_map (λ left. left.lines.items) lefts

-- the board with these lines, over which the domains ran from these wires, and the actors
pub record AreLeft {A R : Type 0} (actor : Ghosts A R) (board : Scenario) (ws : List Wire) (firsts : List A) (left : ActorsLeft A) : Type 0 where
  pub scripts : HasScripts board left.scenario
  pub lawful : IsLawfulBoard left.scenario
  pub apart : RanApart left.scenario ws left.remains
  pub ended : (js : List DomainJournal) → map (λ j. j.line) js ≡ rising board → lines_in left.remains.journals ≡ map lines_of js → AllHaveEnded actor left.scenario firsts js left.actors.items
