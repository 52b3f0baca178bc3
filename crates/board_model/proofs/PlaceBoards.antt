-- Boards of linked domains: the domains in rising number differ, and so do the neighbours of each domain.
use Rattle.std.proofs.Common.{◌≡◌, ℕ, Bool, true, false, cond, List, [], ◌∷◌, ◌++◌, map, flat_map, ltb, refl, sym, ap, ◌∙◌, inl, inr}
use Rattle.std.specs.Prelude.{◌==◌}
use Rattle.std.specs.List.{AllByRecursion}
use Rattle.std.proofs.lemmas.Bool.Decides.{eqb_tells}
use Rattle.board_model.specs.declared.scenario.DomainLine.{DomainLine}
use Rattle.board_model.specs.declared.scenario.LinkLine.{LinkLine}
use Rattle.board_model.specs.declared.scenario.Scenario.{Scenario}
use Rattle.board_model.specs.Scenario.{Neighbour, neighbour, linked_by, ranked, all_ranked, neighbours, ranked_domain, rising_from, rising}
use Rattle.board_model.specs.LinkedBoard.{Differ, Joins, IsSamePair, PairsDiffer, IsLinkedBoard}
use Rattle.board_model.proofs.ListsApart.{IsPlaced, placed_later, all-placed, differ-placed}

-- ---- the domains

domain_placed : (d : DomainLine) (es : List DomainLine) → IsPlaced d es (ranked_domain d es)
domain_placed d [] = record { front = []; back = []; before = refl; after = refl }
domain_placed d (e ∷ es) = go (ltb d.domain e.domain) (domain_placed d es)
  where
    go : (b : Bool) → IsPlaced d es (ranked_domain d es) → IsPlaced d (e ∷ es) (cond b (d ∷ e ∷ es) (e ∷ ranked_domain d es))
    go true rest = record { front = []; back = e ∷ es; before = refl; after = refl }
    go false rest = placed_later d e es (ranked_domain d es) rest

pub rising_all : (P : ℕ → Type 0) (ds : List DomainLine) → AllByRecursion P (map (λ d. d.domain) ds) → AllByRecursion P (map (λ d. d.domain) (rising_from ds))
rising_all P [] all = tt
rising_all P (d ∷ ds) all = all-placed (λ x. x.domain) d (rising_from ds) (ranked_domain d (rising_from ds)) (domain_placed d (rising_from ds)) P all.0 (rising_all P ds all.1)

rising_from_differ : (ds : List DomainLine) → Differ (map (λ d. d.domain) ds) → Differ (map (λ d. d.domain) (rising_from ds))
rising_from_differ [] differ = tt
rising_from_differ (d ∷ ds) differ =
    differ-placed (λ x. x.domain) d (rising_from ds) (ranked_domain d (rising_from ds)) (domain_placed d (rising_from ds))
    (rising_all (λ m. m ≡ d.domain → ⊥) ds differ.0) (rising_from_differ ds differ.1)

pub rising_differ : (s : Scenario) → IsLinkedBoard s → Differ (map (λ d. d.domain) (rising s))
rising_differ s board = rising_from_differ s.domains board.domains_differ

-- ---- the neighbours of a domain

neighbour_placed : (n : Neighbour) (ms : List Neighbour) → IsPlaced n ms (ranked n ms)
neighbour_placed n [] = record { front = []; back = []; before = refl; after = refl }
neighbour_placed n (m ∷ ms) = go (ltb n.number m.number) (neighbour_placed n ms)
  where
    go : (b : Bool) → IsPlaced n ms (ranked n ms) → IsPlaced n (m ∷ ms) (cond b (n ∷ m ∷ ms) (m ∷ ranked n ms))
    go true rest = record { front = []; back = m ∷ ms; before = refl; after = refl }
    go false rest = placed_later n m ms (ranked n ms) rest

abbrev numbers : List Neighbour → List ℕ
numbers ns = map (λ n. n.number) ns

pub ranked_all : (P : ℕ → Type 0) (ns : List Neighbour) → AllByRecursion P (numbers ns) → AllByRecursion P (numbers (all_ranked ns))
ranked_all P [] all = tt
ranked_all P (n ∷ ns) all = all-placed (λ x. x.number) n (all_ranked ns) (ranked n (all_ranked ns)) (neighbour_placed n (all_ranked ns)) P all.0 (ranked_all P ns all.1)

ranked_differ : (ns : List Neighbour) → Differ (numbers ns) → Differ (numbers (all_ranked ns))
ranked_differ [] differ = tt
ranked_differ (n ∷ ns) differ =
    differ-placed (λ x. x.number) n (all_ranked ns) (ranked n (all_ranked ns)) (neighbour_placed n (all_ranked ns))
    (ranked_all (λ m. m ≡ n.number → ⊥) ns differ.0) (ranked_differ ns differ.1)

-- what a link gives a domain: a neighbour, whose number is at the link's other end, or none
data Ends (d : ℕ) (l : LinkLine) (ns : List Neighbour) : Type 0 where
  drives : l.driver ≡ d → ns ≡ neighbour l.device l.size ∷ [] → Ends d l ns
  is_driven : l.device ≡ d → ns ≡ neighbour l.driver l.size ∷ [] → Ends d l ns
  has_none : ns ≡ [] → Ends d l ns

ends : (d : ℕ) (l : LinkLine) → Ends d l (linked_by d l)
ends d l = elim (eqb_tells l.driver d) [
  | inl driver ↦ drives driver.1 (ap (λ b. cond b (neighbour l.device l.size ∷ []) (cond (l.device == d) (neighbour l.driver l.size ∷ []) [])) driver.0)
  | inr other ↦ elim (eqb_tells l.device d) [
    | inl device ↦ is_driven device.1 (ap (λ b. cond b (neighbour l.device l.size ∷ []) (cond (l.device == d) (neighbour l.driver l.size ∷ []) [])) other.0 ∙ ap (λ b. cond b (neighbour l.driver l.size ∷ []) []) device.0)
    | inr neither ↦ has_none (ap (λ b. cond b (neighbour l.device l.size ∷ []) (cond (l.device == d) (neighbour l.driver l.size ∷ []) [])) other.0 ∙ ap (λ b. cond b (neighbour l.driver l.size ∷ []) []) neither.0)
  ]
]

-- what holds of the numbers at the other ends holds of all neighbours by links
linked_all : (P : ℕ → Type 0) (Q : LinkLine → Type 0) (d : ℕ) → ((l : LinkLine) → Q l → l.driver ≡ d → P l.device) → ((l : LinkLine) → Q l → l.device ≡ d → P l.driver) →
    (ls : List LinkLine) → AllByRecursion Q ls → AllByRecursion P (numbers (flat_map (linked_by d) ls))
linked_all P Q d driven driving [] all = tt
linked_all P Q d driven driving (l ∷ ls) all = go (linked_by d l) (ends d l) (linked_all P Q d driven driving ls all.1)
  where
    go : (ns : List Neighbour) → Ends d l ns → AllByRecursion P (numbers (flat_map (linked_by d) ls)) → AllByRecursion P (numbers (ns ++ flat_map (linked_by d) ls))
    go ns (drives driver is) rest = rw is (driven l all.0 driver, rest)
    go ns (is_driven device is) rest = rw is (driving l all.0 device, rest)
    go ns (has_none is) rest = rw is rest

-- no other link joins the domain to the same one
linked_differ : (d : ℕ) (ls : List LinkLine) → PairsDiffer ls → Differ (numbers (flat_map (linked_by d) ls))
linked_differ d [] differ = tt
linked_differ d (l ∷ ls) differ = go (linked_by d l) (ends d l) (linked_differ d ls differ.1)
  where
    go : (ns : List Neighbour) → Ends d l ns → Differ (numbers (flat_map (linked_by d) ls)) → Differ (numbers (ns ++ flat_map (linked_by d) ls))
    go ns (drives driver is) rest =
        rw is (
          linked_all (λ m. m ≡ l.device → ⊥) (λ m. IsSamePair l m → ⊥) d
              (λ m other drives e. other (inl (driver ∙ sym drives, sym e))) (λ m other device e. other (inr (driver ∙ sym device, sym e))) ls differ.0,
          rest,
        )
    go ns (is_driven device is) rest =
        rw is (
          linked_all (λ m. m ≡ l.driver → ⊥) (λ m. IsSamePair l m → ⊥) d
              (λ m other drives e. other (inr (sym e, device ∙ sym drives))) (λ m other driven e. other (inl (sym e, device ∙ sym driven))) ls differ.0,
          rest,
        )
    go ns (has_none is) rest = rw is rest

-- before they are put in rising number
pub neighbours_apart : (s : Scenario) → IsLinkedBoard s → (d : DomainLine) → Differ (numbers (neighbour d.domain d.pool ∷ flat_map (linked_by d.domain) s.links))
neighbours_apart s board d = (
  linked_all (λ m. m ≡ d.domain → ⊥) (Joins s) d.domain (λ l joins driver e. joins.two_domains (driver ∙ sym e)) (λ l joins device e. joins.two_domains (e ∙ sym device)) s.links board.links_join,
  linked_differ d.domain s.links board.pairs_differ,
)

pub neighbours_differ : (s : Scenario) → IsLinkedBoard s → (d : DomainLine) → Differ (numbers (neighbours s d))
neighbours_differ s board d = ranked_differ (neighbour d.domain d.pool ∷ flat_map (linked_by d.domain) s.links) (neighbours_apart s board d)
