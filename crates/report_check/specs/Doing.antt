-- What a domain does and is due to tell, step by step.
-- Source: docs/PROFILE.md, "A turn".
use Rattle.std.specs.Prelude.{◌≡◌, ℕ, min, Bool, true, List, take, map, Some}
use Rattle.std.specs.List.{AllByRecursion, flat_map}
use Rattle.board_model.specs.Journal.{Line, Taken, Visit, put_line, taken_line, visit_lines}
use Rattle.board_model.specs.State.{DomainState, Peer, peer_of, owed_to}
use Rattle.board_model.specs.Deeds.{Deed, puts_owed}
use Rattle.board_model.specs.Turn.{nameless, takes_named, visit_deeds}
use Rattle.report_check.specs.Meeting.{LinesLeft, Meets}
use Rattle.report_check.specs.NamedStates.{GoesOn, turn_deeds}
use Rattle.report_check.specs.declared.named_state.NamedState.{NamedState}

-- the lines that are due are compared, and where each is met, the deeds are done
pub record IsDone (s t : NamedState) (l m : LinesLeft) (deeds : List Deed) (due : List Line) (is : Bool) : Type 0 where
  pub lines : Meets l m due is
  pub state : is ≡ true → GoesOn s t deeds

-- owed frames that are put to a peer, frames that are taken from it, and a visit there
abbrev pub PutsDone : NamedState → NamedState → LinesLeft → LinesLeft → ℕ → List (List ℕ) → Bool → Type 0
PutsDone s t l m peer fs is = IsDone s t l m (map (puts_owed peer) fs) (map (put_line peer) fs) is

abbrev pub TakesDone : NamedState → NamedState → LinesLeft → LinesLeft → ℕ → List Taken → Bool → Type 0
TakesDone s t l m peer ts is = IsDone s t l m (takes_named nameless peer ts) (map (taken_line peer) ts) is

abbrev pub VisitDone : NamedState → NamedState → LinesLeft → LinesLeft → Visit → Bool → Type 0
VisitDone s t l m v is = IsDone s t l m (visit_deeds nameless v) (visit_lines v) is

-- visits, one after the other
pub record AreVisited (s t : NamedState) (l m : LinesLeft) (vs : List Visit) (is : Bool) : Type 0 where
  pub lines : Meets l m (flat_map visit_lines vs) is
  pub state : is ≡ true → GoesOn s t (turn_deeds vs)

-- the owed frames that are put to a peer, so many at most, and as many as there are buffers free
abbrev pub owed_first : ℕ → ℕ → Peer → List (List ℕ)
owed_first most domain p = take (min most p.free) (owed_to domain p)

-- the state has peers of these numbers
abbrev pub HasPeers : DomainState → List ℕ → Type 0
HasPeers s peers = AllByRecursion (λ n. (p : Peer) × (peer_of s n ≡ Some p)) peers
