-- Buffers that a domain gives back to the peer from which they came.
-- Source: docs/PROFILE.md, "Lanes".
use Rattle.std.specs.Prelude.{◌≡◌, ℕ, List, [], ◌∷◌, ◌++◌, ◌==◌, length, position, slice_get, slice_set, Option, Some, Contains}
use Rattle.lane_end.specs.ReceiverContract.{without}
use Rattle.buffer_book.specs.Book.{Book, NoneAside, item_at, left_of}
use Rattle.mc_base.specs.declared.request.Slot.{Slot}
use Rattle.domain_parts.specs.AllMoved.{giving}
use Rattle.domain_parts.specs.LaneSeen.{LaneSeen, after_moves}
use Rattle.domain_parts.specs.declared.peer.Peer.{Peer}
use Rattle.domain_parts.specs.LaneMoves.{LaneMove}
use Rattle.domain_parts.specs.InBook.{frames_at}
use Rattle.domain_parts.specs.Steps.{without_frames}

-- these buffers are out, each at its turn
abbrev pub AreOut : List ℕ → List ℕ → Type 0
AreOut out [] = Unit {0}
AreOut out (f ∷ fs) = Contains out f × AreOut (without f out) fs

-- they are out at the ends towards a peer, which is the first of its number
pub record AreOutAt {L : Type 0} (v : L → LaneSeen) (number : ℕ) (frames : List ℕ) (ps : List (Peer L)) : Type 0 where
  pub place : ℕ
  pub peer : Peer L
  pub first : position (λ p. p.number == number) ps ≡ Some place
  pub there : slice_get ps place ≡ Some peer
  pub is : peer.number ≡ number
  pub out : AreOut (v peer.ends).out frames

-- they are given back there, one after the other, and nothing else changes
pub record GivesBack {L : Type 0} (Moved : L → List LaneMove → L → Type 0) (v : L → LaneSeen) (number : ℕ) (frames : List ℕ) (ps ps' : List (Peer L)) : Type 0 where
  pub place : ℕ
  pub peer : Peer L
  pub ends : L
  pub there : slice_get ps place ≡ Some peer
  pub is : peer.number ≡ number
  pub after : ps' ≡ slice_set ps place (record peer { ends = ends })
  pub moved : Moved peer.ends (giving frames) ends
  pub seen : v ends ≡ after_moves (giving frames) (v peer.ends)

-- so many frames of an item were taken out of the book and given back, and these are left
pub record Giving {L : Type 0} (Moved : L → List LaneMove → L → Type 0) (v : L → LaneSeen) (slot : Slot) (lent : Option ℕ) (k : ℕ) (b b' : Book) (start now : L) : Type 0 where
  pub given : List ℕ
  pub left : List ℕ
  pub all : frames_at b slot ≡ given ++ left
  pub count : k ≡ length given
  pub book : b' ≡ without_frames b slot lent given
  pub item : item_at b' slot ≡ left_of lent left
  pub none_aside : NoneAside b → NoneAside b'
  pub moved : Moved start (giving given) now
  pub seen : v now ≡ after_moves (giving given) (v start)
  pub out : AreOut (v now).out left
