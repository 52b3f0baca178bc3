-- Both lanes of a link between two domains, carried: the ends of each lane meet.
-- Source: docs/PROFILE.md, "Lanes".
use Rattle.std.specs.Prelude.{◌≡◌, ℕ, Bool, false, List, find, position, ◌==◌, Option, Some}
use Rattle.board_model.specs.Lists.{changed}
use Rattle.lane_end.specs.PlainSender.{Sender}
use Rattle.lane_end.specs.PlainReceiver.{Receiver}
use Rattle.lane_end.specs.declared.any.AnySend.{AnySend}
use Rattle.lane_end.specs.declared.any.AnyRecv.{AnyRecv}
use Rattle.domain_parts.specs.declared.link.Link.{Link}
use Rattle.domain_parts.specs.declared.ends.Ends.{Ends}
use Rattle.domain_parts.specs.declared.ends.Ends.TheVariants.{Own, Linked}
use Rattle.domain_parts.specs.Opening.{links_in}

-- links whose ends stand in one memory with the other domain's, and links with ends of any kind
abbrev pub PlainLink : Type 0
PlainLink = Link Sender Receiver

abbrev pub AnyLink : Type 0
AnyLink = Link AnySend AnyRecv

-- whether ends are those of a link to a peer
abbrev pub leads_to : {S R : Type 0} → ℕ → Ends S R → Bool
leads_to peer (Own l) = false
leads_to peer (Linked l) = l.peer == peer

-- the link to a peer
abbrev pub link_to : {S R : Type 0} → ℕ → List (Ends S R) → Option (Link S R)
link_to peer es = find (λ l. l.peer == peer) (links_in es)

-- the ends with another link to a peer: in the place of the first that lead to it
abbrev pub with_link : {S R : Type 0} → ℕ → Link S R → List (Ends S R) → List (Ends S R)
with_link peer a es = changed (λ e. Linked a) (position (leads_to peer) es) es

-- ---- by what two ends of one lane are, and by what they do where they meet

-- the ends of both lanes fit together
pub record AreJoined {S R : Type 0} (AreOne : S → R → Type 0) (a b : Link S R) : Type 0 where
  pub there : AreOne a.send b.recv
  pub back : AreOne b.send a.recv

-- two domains, by their numbers and their ends: each has a link to the other, and these fit together
pub record AreLinked {S R : Type 0} (AreOne : S → R → Type 0) (one two : ℕ) (ones twos : List (Ends S R)) : Type 0 where
  pub there : Link S R
  pub back : Link S R
  pub one_has : link_to two ones ≡ Some there
  pub two_has : link_to one twos ≡ Some back
  pub joined : AreJoined AreOne there back

-- the ends of both lanes met, and all else of the links stays
pub record LinksMeet {S R : Type 0} (Meet : S → R → S → R → Type 0) (a b a' b' : Link S R) : Type 0 where
  pub there : Meet a.send b.recv a'.send b'.recv
  pub back : Meet b.send a.recv b'.send a'.recv
  pub one_peer : a'.peer ≡ a.peer
  pub one_size : a'.size ≡ a.size
  pub two_peer : b'.peer ≡ b.peer
  pub two_size : b'.size ≡ b.size

-- the link between two domains, by their numbers and their ends, is carried: its ends meet, and all other ends stay
pub record Carries {S R : Type 0} (Meet : S → R → S → R → Type 0) (one two : ℕ) (ones twos ones' twos' : List (Ends S R)) : Type 0 where
  pub there : Link S R
  pub back : Link S R
  pub there_after : Link S R
  pub back_after : Link S R
  pub one_had : link_to two ones ≡ Some there
  pub two_had : link_to one twos ≡ Some back
  pub meets : LinksMeet Meet there back there_after back_after
  pub one_has : ones' ≡ with_link two there_after ones
  pub two_has : twos' ≡ with_link one back_after twos
