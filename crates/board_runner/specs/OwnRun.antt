-- A domain that runs its script on its own, whatever the other domains do.
-- Source: docs/PROFILE.md, "Runs", "Lanes" and "Tries". Between two calls of a line with tries it makes only the turns of its calls.
use Rattle.std.specs.Prelude.{◌≡◌, ℕ, ◌+◌, ◌*◌, ◌≤◌, ◌^◌, ◌==◌, List, [], ◌∷◌, ◌++◌, map, slice_get, None, Some, if◌then◌else◌}
use Rattle.std.specs.List.{AllByRecursion}
use Rattle.lane_end.specs.AnySender.{AnySends}
use Rattle.lane_end.specs.AnyReceiver.{AnyReceives}
use Rattle.lane_end.specs.ReceiveMoves.{Took, Gave}
use Rattle.board_model.specs.declared.scenario.CallLine.{CallLine}
use Rattle.board_model.specs.declared.scenario.DomainLine.{DomainLine}
use Rattle.board_model.specs.declared.scenario.Scenario.{Scenario}
use Rattle.board_model.specs.Scenario.{script}
use Rattle.board_model.specs.Deeds.{Deed, after_deeds, along}
use Rattle.board_model.specs.Journal.{PlainEntry, turned, put, again, waits, called, Visit}
use Rattle.board_model.specs.JournalDeeds.{entry_deeds}
use Rattle.board_model.specs.Language.{IsLawfulBoard}
use Rattle.board_model.specs.State.{DomainState, frames_from}
use Rattle.board_model.specs.Step.{RunState, HasNoPuts, next_line, after}
use Rattle.board_model.specs.Run.{start, Leads, left_by, IsDomainRun, IsWhole}
use Rattle.board_model.specs.SerialRun as run
use Rattle.board_model.specs.SerialRun.{opened_station}
use Rattle.board_model.specs.Traffic.{puts_in, returned_by}
use Rattle.board_model.specs.Turn.{after_visit}
use Rattle.domain_core.specs.AllMoved.{AllMoved}
use Rattle.domain_core.specs.Ends.{EndsMoved}
use Rattle.domain_core.specs.LaneMoves.{LaneMove, sender, receiver, receives}
use Rattle.domain_core.specs.VisitMoves.{putting, visit_moves}
use Rattle.lane_images.specs.DeedMoves.{deed_moves, unlooked, nameless_deed, IsNumbered}
use Rattle.board_runner.specs.declared.station.Station.{Station}
use Rattle.board_runner.specs.Near.{RunEnds, peers_of}
use Rattle.board_runner.specs.Stations.{IsStation}

-- ---- the moves that a journal tells

-- A move without the number of its buffer, which no entry tells
abbrev pub unnumbered : LaneMove → LaneMove
unnumbered (sender m) = sender m
unnumbered (receiver (Took n frame)) = receiver (Took 0 frame)
unnumbered (receiver (Gave n)) = receiver (Gave 0)
unnumbered (receiver m) = receiver m

-- those of a visit from a state
abbrev pub visit_told : DomainState → Visit → List LaneMove
visit_told s v = visit_moves s v (map (λ t. 0) v.takes)

-- and of the visits of a turn at the ends towards a peer
abbrev pub turn_told : ℕ → DomainState → List Visit → List LaneMove
turn_told peer s [] = []
turn_told peer s (v ∷ vs) = (if v.peer == peer then visit_told s v else []) ++ turn_told peer (after_visit s v) vs

-- those of an entry: of its visit, of a frame that is put to the peer, and of buffers that go back to it
abbrev pub entry_told : List CallLine → RunState → ℕ → PlainEntry → List LaneMove
entry_told lines r peer (turned visits) = turn_told peer r.state visits
entry_told lines r peer (put to frame) = putting (puts_in peer (put to frame))
entry_told lines r peer (again word) = []
entry_told lines r peer (waits k) = []
entry_told lines r peer (called k a) = map (λ name. receiver (Gave 0)) (frames_from peer (returned_by (next_line lines r) r))

-- and of a run
abbrev pub moves_told : List CallLine → RunState → ℕ → List PlainEntry → List LaneMove
moves_told lines r peer [] = []
moves_told lines r peer (e ∷ es) = entry_told lines r peer e ++ moves_told lines (after lines r e) peer es

-- the deeds that entries tell, but for the names of frames
abbrev pub deeds_told : List CallLine → RunState → List PlainEntry → List Deed
deeds_told lines r [] = []
deeds_told lines r (e ∷ es) = map nameless_deed (entry_deeds lines [] r e) ++ deeds_told lines (after lines r e) es

-- from ends to ends, by just the moves that the entries tell, and from state to state, in which each frame is named by its buffer's number
pub record MovedAsTold (lines : List CallLine) (r : RunState) (peers : List ℕ) (entries : List PlainEntry) (old new : List RunEnds) (from to : DomainState) : Type 0 where
  pub moves : ℕ → List LaneMove
  pub told : (peer : ℕ) → map unnumbered (moves peer) ≡ moves_told lines r peer entries
  pub moved : AllMoved (EndsMoved AnySends AnyReceives) old (map moves peers) new
  -- just the deeds were done that the entries tell, and what they take and give back is what the moves do
  pub deeds : List Deed
  pub numbered : AllByRecursion IsNumbered deeds
  pub noted : map nameless_deed deeds ≡ deeds_told lines r entries
  pub led : to ≡ after_deeds from deeds
  pub dealt : (peer : ℕ) → unlooked (receives (moves peer)) ≡ along (deed_moves peer) from deeds

-- ---- what a station counts

-- no line was called yet
pub record HasNotBegun (st : Station) : Type 0 where
  pub number : st.number ≡ 0
  pub dropped : st.dropped ≡ 0

-- one line more was called, and so few messages dropped that their count fits
pub record CountsOneLine (old new : Station) : Type 0 where
  pub number : new.number ≡ old.number + 1
  pub drops : new.dropped ≤ 2 ^ 32 * new.number
  pub domain_number : new.domain_number ≡ old.domain_number

-- ---- a script

-- a domain with its journal so far, and the state that it left
abbrev pub station_in : DomainLine → RunState → List PlainEntry → run.Station
station_in d r entries = record { line = d; run = r; entries = entries }

-- on its way from these ends through its script, with so many calls made of the next line, of which no wait has begun
pub record IsOnItsWay (s : Scenario) (d : DomainLine) (ends : List RunEnds) (made : ℕ) (st : Station) : Type 0 where
  pub entries : List PlainEntry
  pub run : RunState
  pub stands : IsStation s (station_in d run entries) st
  pub leads : Leads (script s d.domain) (start s d) entries run
  pub settled : HasNoPuts run.put_since_turn
  pub made_is : run.calls_made ≡ made
  pub rests : run.waited ≡ None
  pub moves : MovedAsTold (script s d.domain) (start s d) (peers_of st.domain) entries ends st.domain.ends (start s d).state st.domain.numbered

-- the line is run, whatever run it was in which it came next
abbrev pub RunsNextLine : CallLine → Station → Station → Type 0
RunsNextLine line old new = (s : Scenario) (d : DomainLine) (ends : List RunEnds) → IsLawfulBoard s → line.domain ≡ d.domain → slice_get (script s d.domain) old.number ≡ Some line → IsOnItsWay s d ends 0 old → IsOnItsWay s d ends 0 new

-- the script is run whole, from these ends on: the journal is that of a whole domain run, its lines are told, and the ends moved as it
-- tells
pub record RanWhole (s : Scenario) (d : DomainLine) (ends : List RunEnds) (st : Station) : Type 0 where
  pub entries : List PlainEntry
  pub runs : IsDomainRun s d entries
  pub whole : IsWhole s d entries
  pub stands : IsStation s (station_in d (left_by s d entries) entries) st
  pub moves : MovedAsTold (script s d.domain) (start s d) (peers_of st.domain) entries ends st.domain.ends (start s d).state st.domain.numbered

-- whatever domain of a board stood there before its first line
abbrev pub RunsScript : Scenario → Station → Station → Type 0
RunsScript s old new = (d : DomainLine) → IsStation s (opened_station s d) old → RanWhole s d old.domain.ends new
