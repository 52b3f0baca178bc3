-- Deeds: what a domain does, one thing after the other: looks, owed frames put, frames taken, and calls.
-- Source: docs/PROFILE.md, "A turn" and "Calls".
use Rattle.std.specs.Prelude.{◌≡◌, ℕ, List, [], ◌∷◌, ◌++◌, Option, Some}
use Rattle.mc_base.specs.declared.fate.Fate.{Fate}
use Rattle.board_model.specs.DomainCall.{DomainCall}
use Rattle.board_model.specs.Journal.{PlainAnswer}
use Rattle.board_model.specs.State.{Peer, DomainState, peer_at, owed_to}
use Rattle.board_model.specs.Change.{Change, owed_put, buffers_back, frames_shown, frame_taken, changed_all}
use Rattle.board_model.specs.Parts.{Came, came_from, held_by}
use Rattle.board_model.specs.TakenFrames.{row_from}
use Rattle.board_model.specs.CallChanges.{call_changes}
use Rattle.board_model.specs.Answer.{answer}

-- at a peer: a look shows this many buffers that came back; the first owed frame is put; a look shows this many frames; the oldest of
-- them is taken, under a name or none, with its word. At a node: a call is made, with its answer
pub data Deed : Type 0 where
  looks_back : ℕ → ℕ → Deed
  puts_owed : ℕ → List ℕ → Deed
  looks_ahead : ℕ → ℕ → Deed
  takes : ℕ → Option ℕ → List ℕ → Fate → Deed
  calls : ℕ → DomainCall → PlainAnswer → Deed

-- a frame is taken, and the open part of its peer is another
abbrev pub taken_change : ℕ → Came → Change
taken_change peer c = frame_taken peer c.part (held_by c)

-- what a deed changes
abbrev pub happens_by : DomainState → Deed → List Change
happens_by s (looks_back peer count) = buffers_back peer count ∷ []
happens_by s (puts_owed peer frame) = owed_put peer ∷ []
happens_by s (looks_ahead peer count) = frames_shown peer count ∷ []
happens_by s (takes peer name frame word) = taken_change peer (came_from s peer name frame) ∷ (row_from s peer name frame).happens
happens_by s (calls node call a) = call_changes s node call

-- a deed that the state allows: what is put is owed, the word is that of the frame's row, and the answer is that of the call
abbrev pub MayDo : DomainState → Deed → Type 0
MayDo s (looks_back peer count) = Unit {0}
MayDo s (puts_owed peer frame) = (p : Peer) × (rest : List (List ℕ)) × (peer_at s peer ≡ Some p) × (owed_to s.number p ≡ frame ∷ rest)
MayDo s (looks_ahead peer count) = Unit {0}
MayDo s (takes peer name frame word) = (row_from s peer name frame).word ≡ word
MayDo s (calls node call a) = a ≡ answer s node call

-- ---- deeds one after the other

abbrev pub after_deed : DomainState → Deed → DomainState
after_deed s d = changed_all s (happens_by s d)

abbrev pub after_deeds : DomainState → List Deed → DomainState
after_deeds s [] = s
after_deeds s (d ∷ ds) = after_deeds (after_deed s d) ds

abbrev pub AllMayDo : DomainState → List Deed → Type 0
AllMayDo s [] = Unit {0}
AllMayDo s (d ∷ ds) = MayDo s d × AllMayDo (after_deed s d) ds

-- what is said of each deed and the state in which it is done, along the deeds
abbrev pub along : {A : Type 0} → (DomainState → Deed → List A) → DomainState → List Deed → List A
along f s [] = []
along f s (d ∷ ds) = f s d ++ along f (after_deed s d) ds

-- what holds of each deed and the deeds before it
abbrev pub EachDeed : (List Deed → Deed → Type 0) → List Deed → List Deed → Type 0
EachDeed P before [] = Unit {0}
EachDeed P before (d ∷ ds) = P before d × EachDeed P (before ++ d ∷ []) ds
