-- Of which frames a receiver gives the buffers back, by their places among those that it took.
-- Source: docs/PROFILE.md, "Lanes".
use Rattle.std.specs.Prelude.{◌≡◌, ℕ, List, [], ◌∷◌, ◌++◌, slice_get, Some}
use Rattle.lane_end.specs.ReceiveMoves.{ReceiveMove, Looked, Took, Gave}

-- each giving back is of the buffer of the frame at the next of these places. The first list has the numbers of the buffers of the frames that
-- were taken before
abbrev pub GivesAt : List ℕ → List ℕ → List ReceiveMove → Type 0
GivesAt taken places [] = places ≡ []
GivesAt taken places (Looked n ∷ moves) = GivesAt taken places moves
GivesAt taken places (Took n frame ∷ moves) = GivesAt (taken ++ n ∷ []) places moves
GivesAt taken [] (Gave n ∷ moves) = ⊥
GivesAt taken (place ∷ places) (Gave n ∷ moves) = (slice_get taken place ≡ Some n) × GivesAt taken places moves
