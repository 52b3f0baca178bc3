-- The moves of the two ends towards a peer that a visit tells.
-- Source: docs/PROFILE.md, "A turn". The numbers of the buffers of taken frames, which no entry tells, stand beside it. Which buffers go back
-- with a frame hangs on the open part of its peer, so the moves are told from a state.
use Rattle.std.specs.Prelude.{ℕ, List, [], ◌∷◌, ◌++◌, map, Some}
use Rattle.lane_end.specs.SendMoves.{Looked, Sent}
use Rattle.lane_end.specs.ReceiveMoves.{Took, Gave}
use Rattle.lane_end.specs.ReceiveMoves as receiving
use Rattle.board_model.specs.Deeds.{after_deed, after_deeds, looks_ahead, looks_back, puts_owed, takes}
use Rattle.board_model.specs.Journal.{Visit, Taken}
use Rattle.board_model.specs.Returns.{given_by_frame}
use Rattle.board_model.specs.State.{DomainState}
use Rattle.domain_parts.specs.LaneMoves.{LaneMove, sender, receiver}

-- owed frames are put, one after the other
abbrev pub putting : List (List ℕ) → List LaneMove
putting [] = []
putting (f ∷ fs) = sender (Sent f) ∷ putting fs

-- buffers are given back, one after the other
abbrev pub giving : List ℕ → List LaneMove
giving ns = map (λ n. receiver (Gave n)) ns

-- a frame is taken in this buffer, and with it the buffers go back that its deed gives back
abbrev pub taking_one : DomainState → ℕ → ℕ → Taken → List LaneMove
taking_one s peer n t = receiver (Took n t.frame) ∷ giving (given_by_frame s peer (Some n) t.frame t.fate)

-- frames are taken in these buffers, one after the other
abbrev pub taking : DomainState → ℕ → List ℕ → List Taken → List LaneMove
taking s peer [] ts = []
taking s peer (n ∷ ns) [] = []
taking s peer (n ∷ ns) (t ∷ ts) = taking_one s peer n t ++ taking (after_deed s (takes peer (Some n) t.frame t.fate)) peer ns ts

-- the state in which a visit begins to take frames
abbrev pub before_takes : DomainState → Visit → DomainState
before_takes s v = after_deeds s (looks_back v.peer v.back ∷ (map (puts_owed v.peer) v.owed ++ looks_ahead v.peer v.see ∷ []))

-- one look at the buffers, owed frames, one look at the frames, and frames taken
abbrev pub visit_moves : DomainState → Visit → List ℕ → List LaneMove
visit_moves s v numbers = sender (Looked v.back) ∷ (putting v.owed ++ receiver (receiving.Looked v.see) ∷ taking (before_takes s v) v.peer numbers v.takes)
