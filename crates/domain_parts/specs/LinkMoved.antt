-- A link, of which each end makes its own moves.
-- Source: docs/PROFILE.md, "Lanes".
use Rattle.std.specs.Prelude.{◌≡◌, List, [], ◌∷◌, ◌++◌, refl}
use Rattle.std.proofs.Common.{ap, ◌∙◌}
use Rattle.lane_end.specs.SendMoves.{SendMove}
use Rattle.lane_end.specs.ReceiveMoves.{ReceiveMove}
use Rattle.domain_parts.specs.declared.link.Link.{Link}
use Rattle.domain_parts.specs.LaneMoves.{LaneMove, sender, receiver, sends, receives}

-- the moves lead from each end of the one link to that end of the other
pub record LinkMoved {S R : Type 0} (Sent : S → List SendMove → S → Type 0) (Received : R → List ReceiveMove → R → Type 0) (old : Link S R) (moves : List LaneMove) (new : Link S R) : Type 0 where
  pub peer : new.peer ≡ old.peer
  pub size : new.size ≡ old.size
  pub sent : Sent old.send (sends moves) new.send
  pub received : Received old.recv (receives moves) new.recv

pub sends-append : (xs ys : List LaneMove) → sends (xs ++ ys) ≡ sends xs ++ sends ys
sends-append [] ys = refl
sends-append (sender m ∷ xs) ys = ap (λ (ms : List SendMove). m ∷ ms) (sends-append xs ys)
sends-append (receiver m ∷ xs) ys = sends-append xs ys

pub receives-append : (xs ys : List LaneMove) → receives (xs ++ ys) ≡ receives xs ++ receives ys
receives-append [] ys = refl
receives-append (sender m ∷ xs) ys = receives-append xs ys
receives-append (receiver m ∷ xs) ys = ap (λ (ms : List ReceiveMove). m ∷ ms) (receives-append xs ys)

module _ {S R : Type 0} (Sent : S → List SendMove → S → Type 0) (Received : R → List ReceiveMove → R → Type 0) where
  -- no move leads nowhere else
  pub link-none : ((e : S) → Sent e [] e) → ((e : R) → Received e [] e) → (l : Link S R) → LinkMoved Sent Received l [] l
  link-none sent received l = record { peer = refl; size = refl; sent = sent l.send; received = received l.recv }

  -- moves after moves are one list of moves
  pub link-both : ((a b c : S) (xs ys : List SendMove) → Sent a xs b → Sent b ys c → Sent a (xs ++ ys) c) → ((a b c : R) (xs ys : List ReceiveMove) → Received a xs b → Received b ys c → Received a (xs ++ ys) c)
      → (a b c : Link S R) (xs ys : List LaneMove) → LinkMoved Sent Received a xs b → LinkMoved Sent Received b ys c → LinkMoved Sent Received a (xs ++ ys) c
  link-both sent received a b c xs ys first then = record {
    peer = then.peer ∙ first.peer;
    size = then.size ∙ first.size;
    sent = rw (sends-append xs ys) (sent a.send b.send c.send (sends xs) (sends ys) first.sent then.sent);
    received = rw (receives-append xs ys) (received a.recv b.recv c.recv (receives xs) (receives ys) first.received then.received);
  }
