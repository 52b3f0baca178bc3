-- What is summed over all lanes of a linked board, sender by sender, is also summed receiver by receiver.
use Rattle.std.proofs.Common.{◌≡◌, ℕ, ◌+◌, Bool, true, false, cond, List, [], ◌∷◌, map, refl, sym, ap, ◌∙◌, arith}
use Rattle.std.specs.Prelude.{◌==◌, nat_lt}
use Rattle.std.specs.List.{AllByRecursion, flat_map}
use Rattle.std.proofs.lemmas.Bool.{eqb-true, cond_both}
use Rattle.board_model.specs.declared.scenario.DomainLine.{DomainLine}
use Rattle.board_model.specs.declared.scenario.LinkLine.{LinkLine}
use Rattle.board_model.specs.declared.scenario.Scenario.{Scenario}
use Rattle.board_model.specs.Scenario.{Neighbour, neighbour, linked_by, ranked, all_ranked, neighbours, ranked_domain, rising_from, rising}
use Rattle.board_model.specs.LinkedBoard.{IsTold, Joins, IsLinkedBoard}
use Rattle.board_model.proofs.MessageOnce.{total, total-same, total-sum, total-map, total-joined, total-swap, times, only, total-once, differ-once}

-- ---- the order of a list does not matter

ranked_total : (f : Neighbour → ℕ) (n : Neighbour) (ns : List Neighbour) → total f (ranked n ns) ≡ f n + total f ns
ranked_total f n [] = refl
ranked_total f n (m ∷ ms) =
    cond_both (nat_lt n.number m.number) (n ∷ m ∷ ms) (m ∷ ranked n ms) (λ ks. total f ks ≡ f n + (f m + total f ms))
    (λ first. refl)
    (λ later. omega (arith, ranked_total f n ms))

all_ranked_total : (f : Neighbour → ℕ) (ns : List Neighbour) → total f (all_ranked ns) ≡ total f ns
all_ranked_total f [] = refl
all_ranked_total f (n ∷ ns) = ranked_total f n (all_ranked ns) ∙ ap (λ k. f n + k) (all_ranked_total f ns)

pub neighbours-total : (f : Neighbour → ℕ) (s : Scenario) (d : DomainLine) → total f (neighbours s d) ≡ f (neighbour d.domain d.pool) + total (λ l. total f (linked_by d.domain l)) s.links
neighbours-total f s d =
    all_ranked_total f (neighbour d.domain d.pool ∷ flat_map (linked_by d.domain) s.links)
    ∙ ap (λ k. f (neighbour d.domain d.pool) + k) (total-joined f (linked_by d.domain) s.links)

ranked_domain_total : (f : DomainLine → ℕ) (d : DomainLine) (ds : List DomainLine) → total f (ranked_domain d ds) ≡ f d + total f ds
ranked_domain_total f d [] = refl
ranked_domain_total f d (e ∷ es) =
    cond_both (nat_lt d.domain e.domain) (d ∷ e ∷ es) (e ∷ ranked_domain d es) (λ ks. total f ks ≡ f d + (f e + total f es))
    (λ first. refl)
    (λ later. omega (arith, ranked_domain_total f d es))

rising_total : (f : DomainLine → ℕ) (ds : List DomainLine) → total f (rising_from ds) ≡ total f ds
rising_total f [] = refl
rising_total f (d ∷ ds) = ranked_domain_total f d (rising_from ds) ∙ ap (λ k. f d + k) (rising_total f ds)

-- ---- sums over all lanes

told_once : (s : Scenario) (p : ℕ) → IsLinkedBoard s → IsTold s p → times (λ d. d.domain) p s.domains ≡ 1
told_once s p board told =
    sym (total-map (λ m. cond (p == m) 1 0) (λ (d : DomainLine). d.domain) s.domains) ∙ differ-once p (map (λ d. d.domain) s.domains) board.domains_differ told

-- what is summed, by sender and receiver
module _ (f : ℕ → ℕ → ℕ) where
  linked_sum : (a b : Bool) (d : ℕ) (n m : Neighbour) → (a ≡ true → b ≡ true → ⊥) → total (λ k. f d k.number) (cond a (n ∷ []) (cond b (m ∷ []) [])) ≡ cond a (f d n.number) 0 + cond b (f d m.number) 0
  linked_sum true true d n m apart = absurd (apart refl refl)
  linked_sum true false d n m apart = omega arith
  linked_sum false true d n m apart = omega arith
  linked_sum false false d n m apart = refl

  linked_parts : (s : Scenario) (l : LinkLine) (d : ℕ) → Joins s l →
      total (λ k. f d k.number) (linked_by d l) ≡ cond (l.driver == d) (f d l.device) 0 + cond (l.device == d) (f d l.driver) 0
  linked_parts s l d joins =
      linked_sum (l.driver == d) (l.device == d) d (neighbour l.device l.size) (neighbour l.driver l.size)
      (λ a b. joins.two_domains (eqb-true l.driver d a ∙ sym (eqb-true l.device d b)))

  -- a link has a lane in each direction
  link_total : (s : Scenario) (l : LinkLine) → IsLinkedBoard s → Joins s l →
      total (λ d. total (λ k. f d.domain k.number) (linked_by d.domain l)) s.domains ≡ f l.driver l.device + f l.device l.driver
  link_total s l board joins =
      let driver : total (only (λ (d : DomainLine). d.domain) l.driver (λ d. f d.domain l.device)) s.domains ≡ f l.driver l.device
      = total-once (λ d. d.domain) l.driver (λ d. f d.domain l.device) (f l.driver l.device) (λ d is. ap (λ n. f n l.device) is) s.domains (told_once s l.driver board joins.driver_told) in
      let device : total (only (λ (d : DomainLine). d.domain) l.device (λ d. f d.domain l.driver)) s.domains ≡ f l.device l.driver
      = total-once (λ d. d.domain) l.device (λ d. f d.domain l.driver) (f l.device l.driver) (λ d is. ap (λ n. f n l.driver) is) s.domains (told_once s l.device board joins.device_told) in
      total-sum (λ d. total (λ k. f d.domain k.number) (linked_by d.domain l)) (only (λ d. d.domain) l.driver (λ d. f d.domain l.device)) (only (λ d. d.domain) l.device (λ d. f d.domain l.driver))
      (λ d. linked_parts s l d.domain joins) s.domains
      ∙ omega arith

  links_total : (s : Scenario) (ls : List LinkLine) → IsLinkedBoard s → AllByRecursion (Joins s) ls →
      total (λ l. total (λ d. total (λ k. f d.domain k.number) (linked_by d.domain l)) s.domains) ls ≡ total (λ l. f l.driver l.device + f l.device l.driver) ls
  links_total s [] board join = refl
  links_total s (l ∷ ls) board join = omega (arith, link_total s l board join.0, links_total s ls board join.1)

  -- over all lanes, sender by sender
  abbrev pub over_lanes : Scenario → ℕ
  over_lanes s = total (λ d. total (λ k. f d.domain k.number) (neighbours s d)) (rising s)

  -- own lanes, and then those of links
  pub lanes_total : (s : Scenario) → IsLinkedBoard s → over_lanes s ≡ total (λ d. f d.domain d.domain) s.domains + total (λ l. f l.driver l.device + f l.device l.driver) s.links
  lanes_total s board =
      let parts : total (λ d. total (λ k. f d.domain k.number) (neighbours s d)) s.domains ≡ total (λ d. f d.domain d.domain) s.domains + total (λ d. total (λ l. total (λ k. f d.domain k.number) (linked_by d.domain l)) s.links) s.domains
      = total-sum (λ d. total (λ k. f d.domain k.number) (neighbours s d)) (λ d. f d.domain d.domain) (λ d. total (λ l. total (λ k. f d.domain k.number) (linked_by d.domain l)) s.links)
      (λ d. neighbours-total (λ k. f d.domain k.number) s d) s.domains in
      let turned : total (λ d. total (λ l. total (λ k. f d.domain k.number) (linked_by d.domain l)) s.links) s.domains ≡ total (λ l. f l.driver l.device + f l.device l.driver) s.links
      = total-swap (λ d l. total (λ k. f d.domain k.number) (linked_by d.domain l)) s.domains s.links ∙ links_total s s.links board board.links_join in
      rising_total (λ d. total (λ k. f d.domain k.number) (neighbours s d)) s.domains ∙ omega arith

-- receiver by receiver
pub lanes-turned : (f : ℕ → ℕ → ℕ) (s : Scenario) → IsLinkedBoard s → over_lanes f s ≡ over_lanes (λ a b. f b a) s
lanes-turned f s board =
    lanes_total f s board
    ∙ (ap (λ n. total (λ d. f d.domain d.domain) s.domains + n) (total-same (λ l. f l.driver l.device + f l.device l.driver) (λ l. f l.device l.driver + f l.driver l.device) (λ l. omega arith) s.links)
    ∙ sym (lanes_total (λ a b. f b a) s board))
