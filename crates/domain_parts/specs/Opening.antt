-- A domain at its opening, and its links.
-- Source: docs/PROFILE.md, "A domain" and "Boards". The peers stand in rising number, the domain itself among them.
use Rattle.std.specs.Prelude.{◌≡◌, ◌≤◌, ◌≢◌, ℕ, nat_lt, List, [], ◌∷◌, length, map, if◌then◌else◌}
use Rattle.std.specs.List.{AllByRecursion}
use Rattle.mc_base.specs.Limits.{last_domain, link_limit}
use Rattle.lane_end.specs.Loop.{Loop}
use Rattle.board_model.specs.Scenario.{Neighbour, neighbour}
use Rattle.domain_parts.specs.declared.link.Link.{Link}
use Rattle.domain_parts.specs.declared.ends.Ends.{Ends}
use Rattle.domain_parts.specs.declared.ends.Ends.TheVariants.{Own, Linked}
use Rattle.domain_parts.specs.Sound.{AreRising}

-- the links of a domain: to other domains, in rising order
pub record AreLinksOf {S R : Type 0} (number : ℕ) (ls : List (Link S R)) : Type 0 where
  pub rising : AreRising (map (λ l. l.peer) ls)
  pub others : AllByRecursion (λ l. l.peer ≢ number) ls
  pub few : AllByRecursion (λ l. l.peer ≤ last_domain) ls

-- an open link: both lanes have its size, all buffers to be sent are free, and nothing is shown or out
pub record IsOpenLink {S R : Type 0} (size_to : S → ℕ) (free : S → List ℕ) (size_from : R → ℕ) (shown : R → ℕ) (out : R → List ℕ) (l : Link S R) : Type 0 where
  pub size_to_is : size_to l.send ≡ l.size
  pub size_from_is : size_from l.recv ≡ l.size
  pub fits : l.size ≤ link_limit
  pub all_free : length (free l.send) ≡ l.size
  pub none_shown : shown l.recv ≡ 0
  pub none_out : out l.recv ≡ []

-- the peers with the sizes of their lanes
abbrev pub neighbour_of : {S R : Type 0} → Link S R → Neighbour
neighbour_of l = neighbour l.peer l.size

abbrev pub neighbours_opened : {S R : Type 0} → ℕ → ℕ → List (Link S R) → List Neighbour
neighbours_opened number pool [] = neighbour number pool ∷ []
neighbours_opened number pool (l ∷ ls) = if nat_lt number l.peer then neighbour number pool ∷ map neighbour_of (l ∷ ls) else neighbour_of l ∷ neighbours_opened number pool ls

-- the ends towards them
abbrev pub ends_opened : {S R : Type 0} → ℕ → Loop → List (Link S R) → List (Ends S R)
ends_opened number own [] = Own own ∷ []
ends_opened number own (l ∷ ls) = if nat_lt number l.peer then Own own ∷ map (λ m. Linked m) (l ∷ ls) else Linked l ∷ ends_opened number own ls

-- the links among the ends
abbrev pub links_in : {S R : Type 0} → List (Ends S R) → List (Link S R)
links_in [] = []
links_in (Own l ∷ es) = links_in es
links_in (Linked l ∷ es) = l ∷ links_in es
