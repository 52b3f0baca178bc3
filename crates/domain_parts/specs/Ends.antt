-- The ends towards a peer: what they hold, and their moves.
-- Source: docs/PROFILE.md, "Lanes". Those of a lane to oneself make the moves of both sides in their order; each end of a link
-- makes its own.
use Rattle.std.specs.Prelude.{◌≡◌, ℕ, List, [], ◌++◌, length, refl}
use Rattle.lane_end.specs.Loop.{Loop}
use Rattle.lane_end.specs.SendMoves.{SendMove}
use Rattle.lane_end.specs.ReceiveMoves.{ReceiveMove}
use Rattle.domain_parts.specs.declared.ends.Ends.{Ends}
use Rattle.domain_parts.specs.declared.link.Link.{Link}
use Rattle.domain_parts.specs.LaneSeen.{LaneSeen}
use Rattle.domain_parts.specs.declared.ends.Ends.TheVariants.{Own, Linked}
use Rattle.domain_parts.specs.LaneMoves.{LaneMove, sends, receives}
use Rattle.domain_parts.specs.LinkMoved.{LinkMoved, link-none, link-both}
use Rattle.domain_parts.specs.LoopMoved.{LoopMoved, LoopMoved-both, LoopMoved-size}

-- what is seen of each
abbrev pub loop_seen : Loop → LaneSeen
loop_seen l = record { size_to = l.size; size_from = l.size; free = length l.free; shown = l.shown; out = l.out }

abbrev pub link_seen : {S R : Type 0} → (S → ℕ) → (S → List ℕ) → (R → ℕ) → (R → ℕ) → (R → List ℕ) → Link S R → LaneSeen
link_seen size_to free size_from shown out l = record { size_to = size_to l.send; size_from = size_from l.recv; free = length (free l.send); shown = shown l.recv; out = out l.recv }

abbrev pub ends_seen : {S R : Type 0} → (S → ℕ) → (S → List ℕ) → (R → ℕ) → (R → ℕ) → (R → List ℕ) → Ends S R → LaneSeen
ends_seen size_to free size_from shown out (Own l) = loop_seen l
ends_seen size_to free size_from shown out (Linked l) = link_seen size_to free size_from shown out l

-- moves lead from ends to ends of the same kind
abbrev pub EndsMoved : {S R : Type 0} → (S → List SendMove → S → Type 0) → (R → List ReceiveMove → R → Type 0) → Ends S R → List LaneMove → Ends S R → Type 0
EndsMoved Sent Received (Own a) moves (Own b) = LoopMoved a moves b
EndsMoved Sent Received (Linked a) moves (Linked b) = LinkMoved Sent Received a moves b
EndsMoved Sent Received a moves b = ⊥

module _ {S R : Type 0} (Sent : S → List SendMove → S → Type 0) (Received : R → List ReceiveMove → R → Type 0) where
  pub EndsMoved-none : ((e : S) → Sent e [] e) → ((e : R) → Received e [] e) → (e : Ends S R) → EndsMoved Sent Received e [] e
  EndsMoved-none sent received (Own l) = refl
  EndsMoved-none sent received (Linked l) = link-none Sent Received sent received l

  pub EndsMoved-both : ((a b c : S) (xs ys : List SendMove) → Sent a xs b → Sent b ys c → Sent a (xs ++ ys) c) → ((a b c : R) (xs ys : List ReceiveMove) → Received a xs b → Received b ys c → Received a (xs ++ ys) c)
      → (a b c : Ends S R) (xs ys : List LaneMove) → EndsMoved Sent Received a xs b → EndsMoved Sent Received b ys c → EndsMoved Sent Received a (xs ++ ys) c
  EndsMoved-both sent received (Own a) (Own b) (Own c) xs ys first then = LoopMoved-both a b c xs ys first then
  EndsMoved-both sent received (Linked a) (Linked b) (Linked c) xs ys first then = link-both Sent Received sent received a b c xs ys first then
  EndsMoved-both sent received (Own a) (Own b) (Linked c) xs ys first then = absurd then
  EndsMoved-both sent received (Own a) (Linked b) c xs ys first then = absurd first
  EndsMoved-both sent received (Linked a) (Linked b) (Own c) xs ys first then = absurd then
  EndsMoved-both sent received (Linked a) (Own b) c xs ys first then = absurd first

module _ {S R : Type 0} (size_to : S → ℕ) (free : S → List ℕ) (size_from : R → ℕ) (shown : R → ℕ) (out : R → List ℕ) (Sent : S → List SendMove → S → Type 0) (Received : R → List ReceiveMove → R → Type 0) where
  abbrev seen : Ends S R → LaneSeen
  seen = ends_seen size_to free size_from shown out

  pub EndsMoved-size_to : ((a b : S) (xs : List SendMove) → Sent a xs b → size_to b ≡ size_to a) → (a b : Ends S R) (xs : List LaneMove) → EndsMoved Sent Received a xs b → (seen b).size_to ≡ (seen a).size_to
  EndsMoved-size_to same (Own a) (Own b) xs moved = LoopMoved-size a b xs moved
  EndsMoved-size_to same (Linked a) (Linked b) xs moved = same a.send b.send (sends xs) moved.sent
  EndsMoved-size_to same (Own a) (Linked b) xs moved = absurd moved
  EndsMoved-size_to same (Linked a) (Own b) xs moved = absurd moved

  pub EndsMoved-size_from : ((a b : R) (xs : List ReceiveMove) → Received a xs b → size_from b ≡ size_from a) → (a b : Ends S R) (xs : List LaneMove) → EndsMoved Sent Received a xs b → (seen b).size_from ≡ (seen a).size_from
  EndsMoved-size_from same (Own a) (Own b) xs moved = LoopMoved-size a b xs moved
  EndsMoved-size_from same (Linked a) (Linked b) xs moved = same a.recv b.recv (receives xs) moved.received
  EndsMoved-size_from same (Own a) (Linked b) xs moved = absurd moved
  EndsMoved-size_from same (Linked a) (Own b) xs moved = absurd moved
