-- The ends and the peers of two domains that are carried, found by the numbers of the domains.
-- Source: the code that carries.
use Rattle.std.specs.Prelude.{◌≡◌, ℕ, Bool, List, Some, find, position}
use Rattle.board_model.specs.Lists.{changed}
use Rattle.domain_parts.specs.declared.ends.Ends.{Ends}
use Rattle.domain_parts.specs.declared.ends.Ends.TheVariants.{Linked}
use Rattle.domain_parts.specs.declared.peer.Peer.{Peer}
use Rattle.domain_parts.specs.AllMoved.{ends_of}
use Rattle.domain_parts.specs.Carrying.{AreJoined, LinksMeet}

-- both are ends of links, and these fit together
abbrev pub AreJoinedEnds : {S R : Type 0} → (S → R → Type 0) → Ends S R → Ends S R → Type 0
AreJoinedEnds AreOne (Linked a) (Linked b) = AreJoined AreOne a b
AreJoinedEnds AreOne a b = ⊥

-- both are ends of links, and these met
abbrev pub EndsMeet : {S R : Type 0} → (S → R → S → R → Type 0) → Ends S R → Ends S R → Ends S R → Ends S R → Type 0
EndsMeet Meet (Linked a) (Linked b) (Linked c) (Linked d) = LinksMeet Meet a b c d
EndsMeet Meet a b c d = ⊥

-- the first ends that lead from each of two domains to the other may meet
pub record MayMeet {P : Type 0} (leads : ℕ → P → Bool) (May : P → P → Type 0) (one two : ℕ) (ones twos : List P) : Type 0 where
  pub there : P
  pub back : P
  pub one_has : find (leads two) ones ≡ Some there
  pub two_has : find (leads one) twos ≡ Some back
  pub may : May there back

abbrev pub with_ends : {P : Type 0} → (ℕ → P → Bool) → ℕ → P → List P → List P
with_ends leads peer e es = changed (λ x. e) (position (leads peer) es) es

-- they met, and all other ends stay
pub record FirstMeet {P : Type 0} (leads : ℕ → P → Bool) (Met : P → P → P → P → Type 0) (one two : ℕ) (ones twos ones' twos' : List P) : Type 0 where
  pub there : P
  pub back : P
  pub there_after : P
  pub back_after : P
  pub one_had : find (leads two) ones ≡ Some there
  pub two_had : find (leads one) twos ≡ Some back
  pub met : Met there back there_after back_after
  pub one_has : ones' ≡ with_ends leads two there_after ones
  pub two_has : twos' ≡ with_ends leads one back_after twos

-- ---- the same of peers

abbrev pub with_peer : {P : Type 0} → (ℕ → P → Bool) → ℕ → P → List (Peer P) → List (Peer P)
with_peer leads peer e ps = changed (λ p. record p { ends = e }) (position (λ p. leads peer p.ends) ps) ps

pub record PeersMeet {P : Type 0} (leads : ℕ → P → Bool) (Met : P → P → P → P → Type 0) (one two : ℕ) (ones twos ones' twos' : List (Peer P)) : Type 0 where
  pub there : P
  pub back : P
  pub there_after : P
  pub back_after : P
  pub one_had : find (leads two) (ends_of ones) ≡ Some there
  pub two_had : find (leads one) (ends_of twos) ≡ Some back
  pub met : Met there back there_after back_after
  pub one_has : ones' ≡ with_peer leads two there_after ones
  pub two_has : twos' ≡ with_peer leads one back_after twos
