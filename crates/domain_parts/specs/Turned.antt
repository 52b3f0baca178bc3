-- What a domain does in a turn.
-- Source: docs/PROFILE.md, "A turn". The numbers of the buffers of the frames that are taken, which no entry tells, are given
-- beside each visit.
use Rattle.std.specs.Prelude.{◌≡◌, ℕ, Bool, false, List, [], ◌∷◌, ◌++◌, length}
use Rattle.std.specs.List.{list_all}
use Rattle.board_model.specs.Journal.{Line, Visit, is_idle, noted, turned}
use Rattle.board_model.specs.Deeds.{after_deeds}
use Rattle.board_model.specs.Turn.{IsTurn, after_turn}
use Rattle.domain_parts.specs.LaneMoves.{LaneMove}
use Rattle.domain_parts.specs.Beginning.{told_of_all, has_begun_after}
use Rattle.domain_parts.specs.AllMoved.{AllMoved, turn_moves}
use Rattle.domain_parts.specs.DomainView.{DomainView}
use Rattle.domain_parts.specs.NumberedDeeds.{turn_deeds}

-- each visit has the numbers of as many buffers as it takes frames
abbrev pub HaveNumbers : List Visit → List (List ℕ) → Type 0
HaveNumbers [] [] = Unit {0}
HaveNumbers (v ∷ vs) (ns ∷ numbers) = (length ns ≡ length v.takes) × HaveNumbers vs numbers
HaveNumbers visits numbers = ⊥

-- A turn: the visits are those that the lanes allow, and at the ends towards each peer just the moves of the visit to it are made.
-- The ids of requests and packets stay
pub record Turns {L : Type 0} (Moved : L → List LaneMove → L → Type 0) (visits : List Visit) (numbers : List (List ℕ)) (old new : DomainView L) : Type 0 where
  pub allowed : IsTurn old.state visits
  pub state : new.state ≡ after_turn old.state visits
  pub numbered : new.numbered ≡ after_deeds old.numbered (turn_deeds visits numbers)
  pub each : HaveNumbers visits numbers
  pub moved : AllMoved Moved old.ends (turn_moves old.numbered visits numbers) new.ends
  pub ids : new.ids ≡ old.ids
  pub packets : new.packets ≡ old.packets

-- a turn with the lines of its visits, of which the first that is not idle begins it; and whether one was not idle
pub record VisitsAll {L : Type 0} (Moved : L → List LaneMove → L → Type 0) (old new : DomainView L) (lines lines' : List Line) (begun : Bool) : Type 0 where
  pub visits : List Visit
  pub numbers : List (List ℕ)
  pub turns : Turns Moved visits numbers old new
  pub told : lines' ≡ lines ++ told_of_all false visits
  pub begins : begun ≡ has_begun_after false visits

-- a turn with its line, and whether it was idle
pub record MakesTurn {L : Type 0} (Moved : L → List LaneMove → L → Type 0) (old new : DomainView L) (lines lines' : List Line) (idle : Bool) : Type 0 where
  pub visits : List Visit
  pub numbers : List (List ℕ)
  pub turns : Turns Moved visits numbers old new
  pub told : lines' ≡ noted lines (turned visits)
  pub idle_is : idle ≡ list_all is_idle visits
