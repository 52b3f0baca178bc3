-- What is known of each other between the domains of a board.
-- Source: docs/PROFILE.md, "Lanes" and "Serial run". The links of a domain are carried after each of its turns and calls. So between
-- them each domain knows of all that was put to it or given back, and its next looks show all of it.
use Rattle.std.specs.Prelude.{◌≡◌, ◌≢◌, ◌≤◌, ℕ, Bool, true, false, List, length}
use Rattle.board_model.specs.Lists.{IsPrefix}
use Rattle.board_runner.specs.Near.{Near, RunEnds, RunDomain, near_among}
use Rattle.board_runner.specs.Stations.{near}

-- what was done here is known there: the frames put, and the buffers given back
pub record HasCome (here there : Near) : Type 0 where
  pub put : length here.sent.put ≤ there.got.known
  pub given : here.got.given ≤ there.sent.known

-- what is known here was done there, and the frames taken are the first that were put
pub record IsTrue (here there : Near) : Type 0 where
  pub taken : IsPrefix here.got.taken there.sent.put
  pub come : here.got.known ≤ length there.sent.put
  pub back : here.sent.known ≤ there.got.given

-- from each domain to each other: all is known
abbrev pub AreCarried : List RunDomain → Type 0
AreCarried ds = (a b : ℕ) → HasCome (near ds a b) (near ds b a)

-- from each domain but this one, which made a turn or a call since
abbrev pub OthersCarried : ℕ → List RunDomain → Type 0
OthersCarried n ds = (a b : ℕ) → a ≢ n → HasCome (near ds a b) (near ds b a)

-- what this domain knows and took is true
abbrev pub KnowsTruly : ℕ → List RunDomain → Type 0
KnowsTruly n ds = (p : ℕ) → p ≢ n → IsTrue (near ds n p) (near ds p n)

-- no less is known at an end than before, and all else that it did stays, or it did more
pub record Knows (old new : Near) : Type 0 where
  pub come : old.got.known ≤ new.got.known
  pub back : old.sent.known ≤ new.sent.known

pub record DidNothing (old new : Near) : Type 0 where
  pub put : new.sent.put ≡ old.sent.put
  pub back : new.sent.back ≡ old.sent.back
  pub taken : new.got.taken ≡ old.got.taken
  pub given : new.got.given ≡ old.got.given
  pub knows : Knows old new

-- nothing was put at these ends, taken or given back, and no look showed anything
abbrev pub StayCarried : List RunEnds → List RunEnds → Type 0
StayCarried old new = (ps : List ℕ) (p : ℕ) → DidNothing (near_among ps old p) (near_among ps new p)

abbrev pub StayCarriedWhere : Bool → List RunEnds → List RunEnds → Type 0
StayCarriedWhere true old new = StayCarried old new
StayCarriedWhere false old new = Unit {0}
