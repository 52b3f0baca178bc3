-- What a domain does at one of its peers in a turn, from inside: its steps are these deeds, and these moves at the ends towards the peer.
-- Source: docs/PROFILE.md, "A turn". The numbers of the buffers of taken frames, which no entry tells, stand beside them.
use Rattle.std.specs.Prelude.{◌≡◌, ℕ, Bool, not, ◌||◌, ◌==◌, List, ◌++◌, length, map, min}
use Rattle.mc_base.specs.Limits.{turn_limit}
use Rattle.mc_base.specs.declared.request.RequestId.{RequestId}
use Rattle.board_model.specs.Deeds.{AllMayDo, Deed, after_deeds, puts_owed}
use Rattle.board_model.specs.Journal.{Line, Taken, Visit, taken_line}
use Rattle.board_model.specs.State.{owed_to}
use Rattle.board_model.specs.Turn.{IsVisit, takes_named}
use Rattle.board_model.specs.Unnamed.{unnamed}
use Rattle.domain_parts.specs.Beginning.{has_begun, told_of}
use Rattle.domain_parts.specs.LaneMoves.{LaneMove}
use Rattle.domain_parts.specs.NumberedDeeds.{number_in, numbered_deeds}
use Rattle.domain_parts.specs.Owed.{put_lines}
use Rattle.domain_parts.specs.Peers.{peer_in}
use Rattle.domain_parts.specs.Parts.{Holding, Parts, parts_read, peer_at, plain, state_of}
use Rattle.domain_parts.specs.Steps.{Did, Step, all_moves, at_peer}
use Rattle.domain_parts.specs.VisitMoves.{putting, taking, visit_moves}

abbrev pub ids_in : Parts → List RequestId
ids_in p = map (λ r. r.id) p.requests.standing

pub record Doing {L : Type 0} (Moved : L → List LaneMove → L → Type 0) (peer : ℕ) (deeds : List Deed) (moves : List LaneMove) (old new : Holding L) : Type 0 where
  pub steps : List Step
  pub did : Did Moved steps old new
  pub moves_are : (n : ℕ) → all_moves steps n ≡ at_peer peer moves n
  pub may : AllMayDo (state_of old.parts) deeds
  pub state : state_of new.parts ≡ after_deeds (state_of old.parts) deeds
  pub ids : ids_in new.parts ≡ ids_in old.parts
  pub packets : new.parts.records.lent ≡ old.parts.records.lent

-- frames were taken from the peer at a place
pub record Takes {L : Type 0} (Moved : L → List LaneMove → L → Type 0) (place count : ℕ) (old new : Holding L) (lines lines' : List Line) : Type 0 where
  pub takes : List Taken
  pub numbers : List ℕ
  pub many : length takes ≡ count
  pub each : length numbers ≡ count
  pub doing : Doing Moved (peer_at old.parts place).number (takes_named (number_in numbers) (peer_at old.parts place).number takes) (taking (state_of old.parts) (peer_at old.parts place).number numbers takes) old new
  pub told : lines' ≡ lines ++ map (taken_line (peer_at old.parts place).number) takes

-- the frames that are owed to the peer at a place: announcements first, and then replies, the oldest first
abbrev pub owed_at : Parts → ℕ → List (List ℕ)
owed_at p i = owed_to p.table.domain (peer_in plain (parts_read p) p.table (peer_at p i))

-- the first of them are put
pub record Puts {L : Type 0} (Moved : L → List LaneMove → L → Type 0) (place : ℕ) (begun : Bool) (frames : List (List ℕ)) (old new : Holding L) (lines lines' : List Line) : Type 0 where
  pub owed : owed_at old.parts place ≡ frames ++ owed_at new.parts place
  pub doing : Doing Moved (peer_at old.parts place).number (map (puts_owed (peer_at old.parts place).number) frames) (putting frames) old new
  pub told : lines' ≡ lines ++ put_lines begun (peer_at old.parts place).number frames

-- all that a visit must put: as many as are owed and as buffers are free, and not over 8
pub record PutsDue {L : Type 0} (Moved : L → List LaneMove → L → Type 0) (place : ℕ) (begun begun' : Bool) (old new : Holding L) (lines lines' : List Line) : Type 0 where
  pub frames : List (List ℕ)
  pub puts : Puts Moved place begun frames old new lines lines'
  pub many : length frames ≡ min turn_limit (min (peer_at old.parts place).ends.free (length (owed_at old.parts place)))
  pub begins : begun' ≡ (begun || not (length frames == 0))

-- a visit to the peer at a place, and its lines
pub record Visits {L : Type 0} (Moved : L → List LaneMove → L → Type 0) (place : ℕ) (begun begun' : Bool) (old new : Holding L) (lines lines' : List Line) : Type 0 where
  pub visit : Visit
  pub numbers : List ℕ
  pub peer_is : visit.peer ≡ (peer_at old.parts place).number
  pub allowed : IsVisit (unnamed (state_of old.parts)) visit
  pub each : length numbers ≡ length visit.takes
  pub doing : Doing Moved visit.peer (numbered_deeds visit numbers) (visit_moves (state_of old.parts) visit numbers) old new
  pub told : lines' ≡ lines ++ told_of begun visit
  pub begins : begun' ≡ has_begun begun visit
