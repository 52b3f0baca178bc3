-- What a domain's deeds take from a peer and give back to it, as moves of the receiving end. A frame is named by its buffer's number.
-- Source: docs/PROFILE.md, "A turn" and "Calls".
use Rattle.std.specs.Prelude.{ℕ, ◌==◌, List, [], ◌∷◌, ◌++◌, map, Option, None, IsSome, option_to_list, if◌then◌else◌}
use Rattle.lane_end.specs.ReceiveMoves.{ReceiveMove, Looked, Took, Gave}
use Rattle.board_model.specs.CallChanges.{returned}
use Rattle.board_model.specs.Deeds.{Deed, takes, calls}
use Rattle.board_model.specs.Returns.{given_by_frame}
use Rattle.board_model.specs.State.{DomainState, frames_from}

abbrev pub giving : List ℕ → List ReceiveMove
giving numbers = map (λ n. Gave n) numbers

-- a frame is taken, and the buffers are given back that it gives back at once
abbrev pub taking : Option ℕ → List ℕ → List ℕ → List ReceiveMove
taking name frame given = map (λ n. Took n frame) (option_to_list name) ++ giving given

abbrev pub deed_moves : ℕ → DomainState → Deed → List ReceiveMove
deed_moves peer s (takes p name frame word) = if p == peer then taking name frame (given_by_frame s p name frame word) else []
deed_moves peer s (calls node call a) = giving (frames_from peer (returned s node call))
deed_moves peer s other = []

-- moves but for the looks
abbrev pub unlooked : List ReceiveMove → List ReceiveMove
unlooked [] = []
unlooked (Looked n ∷ moves) = unlooked moves
unlooked (Took n frame ∷ moves) = Took n frame ∷ unlooked moves
unlooked (Gave n ∷ moves) = Gave n ∷ unlooked moves

-- a deed but for the name of its frame, and one that names its frame
abbrev pub nameless_deed : Deed → Deed
nameless_deed (takes peer name frame word) = takes peer None frame word
nameless_deed other = other

abbrev pub IsNumbered : Deed → Type 0
IsNumbered (takes peer name frame word) = IsSome name
IsNumbered other = Unit {0}
