-- What a domain makes of its links at its opening: its peers, and the sizes of the lanes from them.
-- Source: the code of the opening.
use Rattle.std.specs.Prelude.{ℕ, nat_lt, not, List, [], ◌∷◌, map, if◌then◌else◌}
use Rattle.std.specs.List.{prefix_len}
use Rattle.lane_end.specs.Loop.{Loop}
use Rattle.domain_parts.specs.declared.link.Link.{Link}
use Rattle.domain_parts.specs.declared.ends.Ends.{Ends}
use Rattle.domain_parts.specs.declared.ends.Ends.TheVariants.{Own, Linked}
use Rattle.domain_parts.specs.declared.peer.Peer.{Peer}

-- what is made of each link, and what is the domain's own in its place among them: before the first whose peer has a greater
-- number
abbrev pub placed : {S R X : Type 0} → ℕ → (Link S R → X) → X → List (Link S R) → List X
placed number f own [] = own ∷ []
placed number f own (l ∷ ls) = if nat_lt number l.peer then own ∷ map f (l ∷ ls) else f l ∷ placed number f own ls

-- that place
abbrev pub own_place : {S R : Type 0} → ℕ → List (Link S R) → ℕ
own_place number ls = prefix_len (λ l. not (nat_lt number l.peer)) ls

-- the peer of a link, and the domain itself: no names are known of them, and no replies are owed to them
abbrev pub linked_peer : {S R : Type 0} → Link S R → Peer (Ends S R)
linked_peer l = record { number = l.peer; ends = Linked l; known = []; replies = [] }

abbrev pub own_peer : {S R : Type 0} → ℕ → Loop → Peer (Ends S R)
own_peer number own = record { number = number; ends = Own own; known = []; replies = [] }

abbrev pub peers_opened : {S R : Type 0} → ℕ → Loop → List (Link S R) → List (Peer (Ends S R))
peers_opened number own ls = placed number linked_peer (own_peer number own) ls

-- the number of each peer with its lane's size, the domain itself first
abbrev pub size_of : {S R : Type 0} → Link S R → ℕ × ℕ
size_of l = (l.peer, l.size)

abbrev pub sizes_opened : {S R : Type 0} → ℕ → ℕ → List (Link S R) → List (ℕ × ℕ)
sizes_opened number pool ls = (number, pool) ∷ map size_of ls
