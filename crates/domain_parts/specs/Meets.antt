-- What is seen of the ends of two domains towards each other stays where they meet.
-- Source: docs/PROFILE.md, "Lanes".
use Rattle.std.specs.Prelude.{◌≡◌, ℕ, List, length}
use Rattle.lane_end.specs.Meeting.{SeenStays}
use Rattle.domain_parts.specs.declared.ends.Ends.{Ends}
use Rattle.domain_parts.specs.declared.ends.Ends.TheVariants.{Own, Linked}
use Rattle.domain_parts.specs.declared.link.Link.{Link}
use Rattle.domain_parts.specs.Carried.{EndsMeet}
use Rattle.domain_parts.specs.Carrying.{LinksMeet}
use Rattle.domain_parts.specs.Ends.{ends_seen, link_seen}

-- what holds where links meet holds where ends do
pub over-links : {S R : Type 0} (Meet : S → R → S → R → Type 0) (P : Ends S R → Ends S R → Ends S R → Ends S R → Type 0) → ((a b c d : Link S R) → LinksMeet Meet a b c d → P (Linked a) (Linked b) (Linked c) (Linked d))
    → (a b c d : Ends S R) → EndsMeet Meet a b c d → P a b c d
over-links Meet P links (Linked a) (Linked b) (Linked c) (Linked d) met = links a b c d met
over-links Meet P links (Own a) b c d met = absurd met
over-links Meet P links (Linked a) (Own b) c d met = absurd met
over-links Meet P links (Linked a) (Linked b) (Own c) d met = absurd met
over-links Meet P links (Linked a) (Linked b) (Linked c) (Own d) met = absurd met

module _ {S R : Type 0} (size_to : S → ℕ) (free : S → List ℕ) (size_from : R → ℕ) (shown : R → ℕ) (out : R → List ℕ) where
  abbrev EndsSeen : Ends S R → Ends S R → Ends S R → Ends S R → Type 0
  EndsSeen a b c d = (ends_seen size_to free size_from shown out c ≡ ends_seen size_to free size_from shown out a) × (ends_seen size_to free size_from shown out d ≡ ends_seen size_to free size_from shown out b)

  -- of a link, by how its sender met and how its receiver did
  link-same : (a c : Link S R) (r r' : R) (s s' : S) → SeenStays size_to free size_from shown out a.send r c.send r' → SeenStays size_to free size_from shown out s a.recv s' c.recv
      → link_seen size_to free size_from shown out c ≡ link_seen size_to free size_from shown out a
  link-same a c r r' s s' sent came = λ k. record { size_to = sent.size_to k; size_from = came.size_from k; free = length (sent.free k); shown = came.shown k; out = came.out k }

  -- where a meeting of ends leaves what is seen of them, so does that of links
  pub joined-seen : (Met : S → R → S → R → Type 0) → ((a : S) (b : R) (c : S) (d : R) → Met a b c d → SeenStays size_to free size_from shown out a b c d) → (a b c d : Ends S R) → EndsMeet Met a b c d → EndsSeen a b c d
  joined-seen Met stays = over-links Met EndsSeen (λ a b c d met.
      let there = stays a.send b.recv c.send d.recv met.there in
      let back = stays b.send a.recv d.send c.recv met.back in (link-same a c b.recv d.recv b.send d.send there back, link-same b d a.recv c.recv a.send c.send back there))
