-- What a runner does to the stations of a board that runs.
-- Source: docs/PROFILE.md, "Serial run" and "Tries".
use Rattle.std.specs.Prelude.{◌≡◌, ℕ, ◌+◌, ◌*◌, ◌≤◌, ◌<◌, ◌^◌, Bool, true, false, ◌&&◌, List, map, slice_get, Some, IfSome}
use Rattle.std.specs.List.{AllByRecursion}
use Rattle.board_model.specs.declared.scenario.CallLine.{CallLine}
use Rattle.board_model.specs.declared.scenario.Scenario.{Scenario}
use Rattle.board_model.specs.Answer.{answer}
use Rattle.board_model.specs.Journal.{again}
use Rattle.board_model.specs.Language.{IsLawfulBoard}
use Rattle.board_model.specs.Lists.{changed_at}
use Rattle.board_model.specs.Scenario.{script}
use Rattle.board_model.specs.Step.{call_at}
use Rattle.board_model.specs.SerialRun as run
use Rattle.board_model.specs.SerialRun.{Running, turned_once, with_entry, word_in, called_by, is_tried_at, station_of}
use Rattle.board_runner.specs.declared.station.Station.{Station}
use Rattle.board_runner.specs.Carried.{AreCarried, OthersCarried, KnowsTruly}
use Rattle.board_runner.specs.StationsMet.{counted, domains_of}
use Rattle.board_runner.specs.Stations.{IsRun, IsBoard}

-- the stations stand for a run of a lawful board
pub record IsSomeRun (sts : List Station) : Type 0 where
  pub scenario : Scenario
  pub lawful : IsLawfulBoard scenario
  pub run : Running
  pub stands : IsRun scenario run sts

-- the stations are those of some lawful board
pub record IsSomeBoard (sts : List Station) : Type 0 where
  pub scenario : Scenario
  pub lawful : IsLawfulBoard scenario
  pub stands : IsBoard scenario sts

-- whatever run of a lawful board the stations stood for, now they stand for this one
abbrev pub Leads : (Scenario → Running → Running) → List Station → List Station → Type 0
Leads f old new = (s : Scenario) (r : Running) → IsLawfulBoard s → IsRun s r old → IsRun s (f s r) new

-- what holds of the station at a place
abbrev pub At : ℕ → (Station → Type 0) → List Station → Type 0
At at P sts = IfSome (slice_get sts at) P

-- one station's domain turns once
abbrev pub TurnsOnce : ℕ → List Station → List Station → Type 0
TurnsOnce at old new = At at (λ st. Leads (λ s r. turned_once s r st.domain.state.number) old new) old

-- all others do, in rising number
abbrev pub OthersTurn : ℕ → List Station → List Station → Type 0
OthersTurn at old new = At at (λ st. Leads (λ s r. run.all_turned s r (run.others s st.domain.state.number)) old new) old

-- each knows of all that the others did
abbrev pub AllCarried : List Station → Type 0
AllCarried sts = AreCarried (domains_of sts)

-- or of all but what the domain at this place did
abbrev pub CarriedBut : ℕ → List Station → Type 0
CarriedBut at sts = At at (λ st. OthersCarried st.domain.state.number (domains_of sts)) sts

-- what the domain at this place knows and took is true
abbrev pub KnowsTrulyAt : ℕ → List Station → Type 0
KnowsTrulyAt at sts = At at (λ st. KnowsTruly st.domain.state.number (domains_of sts)) sts

-- ---- what stations count

-- how many lines were called of each station, and how many messages were dropped, stays
abbrev pub KeepCounts : List Station → List Station → Type 0
KeepCounts old new = map counted new ≡ map counted old

-- no line drops so many messages that a count of 64 bits is too small
abbrev pub DropsFit : ℕ × ℕ → Type 0
DropsFit c = c.1 ≤ 2 ^ 32 * c.0

abbrev pub CountsFit : List Station → Type 0
CountsFit sts = AllByRecursion DropsFit (map counted sts)

-- one line more fits
abbrev pub MayCount : Station → Type 0
MayCount st = st.number + 1 < 2 ^ 32

-- the station at a place called one line more
pub record OneLineMore (at : ℕ) (old new : List Station) : Type 0 where
  pub lines : map (λ st. st.number) new ≡ changed_at (λ n. n + 1) at (map (λ st. st.number) old)
  pub fits : CountsFit old → CountsFit new

-- a call that is made again counts nothing
abbrev pub CountsCall : Bool → ℕ → List Station → List Station → Type 0
CountsCall true at old new = KeepCounts old new
CountsCall false at old new = OneLineMore at old new

-- ---- lines

-- the line is the next of the station's domain
pub record IsNext (s : Scenario) (line : CallLine) (st : Station) : Type 0 where
  pub number : st.domain.state.number ≡ line.domain
  pub comes : slice_get (script s line.domain) st.number ≡ Some line

-- the stations stand for some run of a lawful board in which the line comes next
pub record IsSomeNext (line : CallLine) (at : ℕ) (sts : List Station) : Type 0 where
  pub scenario : Scenario
  pub lawful : IsLawfulBoard scenario
  pub run : Running
  pub stands : IsRun scenario run sts
  pub next : At at (IsNext scenario line) sts

-- a call of a line after its turn: one that is made again, or the last one
abbrev pub after_call : Scenario → CallLine → Bool → run.Station → Running → Running
after_call s line true t r = with_entry s line.domain (again (word_in (answer t.run.state line.node (call_at t.run line)))) r
after_call s line false t r = called_by s line t r

-- the stations stand for the run after a call of a line, which may be made again or not
pub record IsCalled (s : Scenario) (line : CallLine) (may_try is_again : Bool) (turned : Running) (sts : List Station) : Type 0 where
  pub station : run.Station
  pub found : station_of line turned ≡ Some station
  pub again_is : is_again ≡ (is_tried_at line station && may_try)
  pub stands : IsRun s (after_call s line is_again station turned) sts

-- whatever run it was in which the line comes next, the line's call was made at the station of its domain
abbrev pub CallsLine : CallLine → Bool → Bool → ℕ → List Station → List Station → Type 0
CallsLine line may_try is_again at old new = (s : Scenario) (r : Running) → IsLawfulBoard s → At at (IsNext s line) old → IsRun s r old → IsCalled s line may_try is_again (turned_once s r line.domain) new

-- and so it was with all calls of the line
abbrev pub RunsLine : CallLine → ℕ → List Station → List Station → Type 0
RunsLine line at old new = (s : Scenario) (r : Running) → IsLawfulBoard s → At at (IsNext s line) old → IsRun s r old → IsRun s (run.line_run s r line) new
