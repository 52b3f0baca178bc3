-- Runs of deeds: what the laws of messages rest on. Each deed is allowed, and each frame is named by its place among those taken.
use Rattle.mc_base.specs.Reading.{Reading}
use Rattle.board_model.specs.Parts.{said_from}
use Rattle.std.proofs.Common.{◌≡◌, ℕ, ◌+◌, Bool, cond, List, [], ◌∷◌, ◌++◌, Some}
use Rattle.std.specs.Prelude.{◌==◌}
use Rattle.std.specs.List.{flat_map}
use Rattle.board_model.specs.Answer.{puts}
use Rattle.board_model.specs.State.{DomainState}
use Rattle.board_model.specs.Deeds.{Deed, puts_owed, takes, calls, AllMayDo}

-- how many frames deeds take from a peer
abbrev pub taken_by : ℕ → Deed → ℕ
taken_by peer (takes p name frame word) = cond (p == peer) 1 0
taken_by peer other = 0

abbrev pub count_taken : ℕ → List Deed → ℕ
count_taken peer [] = 0
count_taken peer (d ∷ ds) = taken_by peer d + count_taken peer ds

-- each frame is named by its place
abbrev pub IsNamed : List Deed → Deed → Type 0
IsNamed before (takes p name frame word) = name ≡ Some (count_taken p before)
IsNamed before other = Unit {0}

abbrev pub AreNamed : List Deed → List Deed → Type 0
AreNamed before [] = Unit {0}
AreNamed before (d ∷ ds) = IsNamed before d × AreNamed (before ++ d ∷ []) ds

pub record IsDeedRun (start : DomainState) (ds : List Deed) : Type 0 where
  pub may : AllMayDo start ds
  pub named : AreNamed [] ds

-- ---- frames of a lane

abbrev pub frames_if : Bool → List (List ℕ) → List (List ℕ)
frames_if b fs = cond b fs []

abbrev pub frames_to : ℕ → List (ℕ × List ℕ) → List (List ℕ)
frames_to peer ps = flat_map (λ p. frames_if (p.0 == peer) (p.1 ∷ [])) ps

-- those that a deed puts to a peer, and takes from it
abbrev pub puts_by : ℕ → DomainState → Deed → List (List ℕ)
puts_by peer s (puts_owed p frame) = frames_if (p == peer) (frame ∷ [])
puts_by peer s (calls node call a) = frames_to peer (puts s node call)
puts_by peer s other = []

abbrev pub takes_by : ℕ → Deed → List (List ℕ)
takes_by peer (takes p name frame word) = frames_if (p == peer) (frame ∷ [])
takes_by peer other = []

-- and what the frame says that it takes from it
abbrev pub says_by : ℕ → DomainState → Deed → List Reading
says_by peer s (takes p name frame word) = cond (p == peer) (said_from s p frame ∷ []) []
says_by peer s other = []
