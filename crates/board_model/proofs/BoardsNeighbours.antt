-- Boards of linked domains: eight domains at most, each with eight neighbours at most, itself among them, and lanes of 1 to 256
-- buffers both ways.
use Rattle.std.proofs.Common.{◌≡◌, ℕ, suc, ◌+◌, ◌<◌, ◌≤◌, List, [], ◌∷◌, map, length, Option, Some, find, flat_map, Contains, refl, ap, ap₂, ◌∙◌, subst, arith, inl, inr, eqb-true}
use Rattle.std.specs.Prelude.{◌==◌, nat_lt}
use Rattle.std.specs.List.{AllByRecursion}
use Rattle.std.proofs.lemmas.Bool.{cond_both}
use Rattle.std.proofs.lemmas.List.{length-map}
use Rattle.board_model.specs.declared.scenario.DomainLine.{DomainLine}
use Rattle.board_model.specs.declared.scenario.LinkLine.{LinkLine}
use Rattle.board_model.specs.declared.scenario.Scenario.{Scenario}
use Rattle.board_model.specs.Scenario.{Neighbour, neighbour, linked_by, neighbours, ranked_domain, rising_from, rising}
use Rattle.board_model.specs.Grammar.{IsLawfulDomain}
use Rattle.board_model.specs.LinkedBoard.{IsTold, Joins, IsLinkedBoard}
use Rattle.board_model.proofs.MessageAlls.{all-weaken, all-found, found-passes}
use Rattle.board_model.proofs.ListsApart.{all-map}
use Rattle.board_model.proofs.PlaceBoards.{neighbours_differ}
use Rattle.board_model.proofs.WholeHas.{Has, has-weaken, has-gives, has-contained, has-differ}
use Rattle.board_model.proofs.WholeJoined.{IsOwn, IsLink, Joined, joined_back, all-rising, has-ranked, neighbours_join, rising_told, told_found, found_neighbour}
use Rattle.board_model.proofs.BoardsRising.{rising-few, rising-rises, neighbours-rise}

-- ---- the domains

pub rising-lawful : (s : Scenario) → IsLinkedBoard s → AllByRecursion IsLawfulDomain (rising s)
rising-lawful s board = all-rising IsLawfulDomain s.domains board.domains_lawful

ranked_length : (d : DomainLine) (ds : List DomainLine) → length (ranked_domain d ds) ≡ length ds + 1
ranked_length d [] = refl
ranked_length d (e ∷ es) =
    cond_both (nat_lt d.domain e.domain) (d ∷ e ∷ es) (e ∷ ranked_domain d es) (λ fs. length fs ≡ length (e ∷ es) + 1) (λ before. omega arith) (λ behind. omega (arith, ranked_length d es))

from_length : (ds : List DomainLine) → length (rising_from ds) ≡ length ds
from_length [] = refl
from_length (d ∷ ds) = omega (arith, ranked_length d (rising_from ds), from_length ds)

pub rising-length : (s : Scenario) → length (rising s) ≡ length s.domains
rising-length s = from_length s.domains

pub domains-few : (s : Scenario) → IsLinkedBoard s → length s.domains ≤ 8
domains-few s board =
    let few = rising-few 0 8 (map (λ d. d.domain) (rising s)) (omega arith) (rising-rises s board)
    (all-map (λ n. 0 ≤ n) (λ d. d.domain) (rising s) (all-weaken IsLawfulDomain (λ d. 0 ≤ d.domain) (λ d lawful. omega arith) (rising s) (rising-lawful s board)))
    (all-map (λ n. n < 8) (λ d. d.domain) (rising s) (all-weaken IsLawfulDomain (λ d. d.domain < 8) (λ d lawful. omega (arith, lawful.domain_fits)) (rising s) (rising-lawful s board))) in
    omega (arith, few, length-map (rising s) (λ (d : DomainLine). d.domain), rising-length s)

-- a domain that is told has a number up to 7
pub told-fits : (s : Scenario) → IsLinkedBoard s → (n : ℕ) → IsTold s n → n ≤ 7
told-fits s board n told =
    has-gives IsLawfulDomain (λ (d : DomainLine). d.domain ≡ n) (n ≤ 7) (λ d lawful is. omega (arith, lawful.domain_fits, is)) s.domains board.domains_lawful (has-contained (λ (d : DomainLine). d.domain) s.domains n told)

-- ---- the lanes

-- a lane of 1 to 256 buffers to a domain that is told
pub record LeadsTo (s : Scenario) (b size : ℕ) : Type 0 where
  pub told : IsTold s b
  pub some_buffers : 1 ≤ size
  pub buffers_fit : size ≤ 256

has_told : (n : ℕ) (ds : List DomainLine) → Has (λ d. d.domain ≡ n) ds → Contains (map (λ d. d.domain) ds) n
has_told n [] h = absurd h
has_told n (d ∷ ds) (inl here) = (0, omega arith, here)
has_told n (d ∷ ds) (inr later) = let c = has_told n ds later in let within = c.1 in (suc c.0, omega arith, c.2)

own_leads : (s : Scenario) (a b size : ℕ) → AllByRecursion IsLawfulDomain s.domains → Has (IsOwn a b size) s.domains → LeadsTo s b size
own_leads s a b size lawful own =
    let fits : (1 ≤ size) × (size ≤ 256) = has-gives IsLawfulDomain (IsOwn a b size) ((1 ≤ size) × (size ≤ 256)) (λ d l is. (omega (arith, l.some_pool, is.2), omega (arith, l.pool_fits, is.2))) s.domains lawful own in
    record { told = has_told b s.domains (has-weaken (IsOwn a b size) (λ d. d.domain ≡ b) (λ d is. is.1) s.domains own); some_buffers = fits.0; buffers_fit = fits.1 }

link_leads : (s : Scenario) (a b size : ℕ) (l : LinkLine) → Joins s l → IsLink a b size l → LeadsTo s b size
link_leads s a b size l joins (inl is, sized) = record { told = subst (IsTold s) is.1 joins.device_told; some_buffers = omega (arith, joins.some_buffers, sized); buffers_fit = omega (arith, joins.buffers_fit, sized) }
link_leads s a b size l joins (inr is, sized) = record { told = subst (IsTold s) is.0 joins.driver_told; some_buffers = omega (arith, joins.some_buffers, sized); buffers_fit = omega (arith, joins.buffers_fit, sized) }

pub joined-leads : (s : Scenario) → IsLinkedBoard s → (a b size : ℕ) → Joined s a b size → LeadsTo s b size
joined-leads s board a b size (inl own) = own_leads s a b size board.domains_lawful own
joined-leads s board a b size (inr link) = has-gives (Joins s) (IsLink a b size) (LeadsTo s b size) (link_leads s a b size) s.links board.links_join link

-- ---- the neighbours of a domain

abbrev LeadsToIt : Scenario → Neighbour → Type 0
LeadsToIt s n = LeadsTo s n.number n.size

pub neighbours-fit : (s : Scenario) → IsLinkedBoard s → AllByRecursion (λ d. AllByRecursion (λ n. LeadsTo s n.number n.size) (neighbours s d)) (rising s)
neighbours-fit s board =
    all-weaken (λ d. Has (λ e. e ≡ d) s.domains) (λ d. AllByRecursion (LeadsToIt s) (neighbours s d))
    (λ d told. all-weaken (λ n. Joined s d.domain n.number n.size) (LeadsToIt s) (λ n joined. joined-leads s board d.domain n.number n.size joined) (neighbours s d) (neighbours_join s d told))
    (rising s) (rising_told s)

pub neighbours-few : (s : Scenario) → IsLinkedBoard s → AllByRecursion (λ d. length (neighbours s d) ≤ 8) (rising s)
neighbours-few s board = all-weaken (λ d. AllByRecursion (LeadsToIt s) (neighbours s d)) (λ d. length (neighbours s d) ≤ 8) few (rising s) (neighbours-fit s board)
  where
    few : (d : DomainLine) → AllByRecursion (LeadsToIt s) (neighbours s d) → length (neighbours s d) ≤ 8
    few d fit =
        let below = rising-few 0 8 (map (λ n. n.number) (neighbours s d)) (omega arith) (neighbours-rise s board d)
        (all-map (λ n. 0 ≤ n) (λ n. n.number) (neighbours s d) (all-weaken (LeadsToIt s) (λ n. 0 ≤ n.number) (λ n leads. omega arith) (neighbours s d) fit))
        (all-map (λ n. n < 8) (λ n. n.number) (neighbours s d) (all-weaken (LeadsToIt s) (λ n. n.number < 8) (λ n leads. omega (arith, told-fits s board n.number leads.told)) (neighbours s d) fit)) in
        omega (arith, below, length-map (neighbours s d) (λ (n : Neighbour). n.number))

-- a domain is its own neighbour, with the buffers of its pool
pub own-neighbour : (s : Scenario) → IsLinkedBoard s → (d : DomainLine) → find (λ n. n.number == d.domain) (neighbours s d) ≡ Some (neighbour d.domain d.pool)
own-neighbour s board d =
    let own = has-differ (λ n. n.number) (λ n. n ≡ neighbour d.domain d.pool) (neighbours s d) d.domain (neighbours_differ s board d)
    (has-ranked (λ n. (n.number ≡ d.domain) × (n ≡ neighbour d.domain d.pool)) (neighbour d.domain d.pool ∷ flat_map (linked_by d.domain) s.links) (inl (refl, refl))) in
    own.1 ∙ ap (λ n. Some n) own.2

-- a lane that its ends name by their numbers
found_joined : (s : Scenario) (a b : ℕ) (d : DomainLine) (n : Neighbour) → find (λ x. x.domain == a) (rising s) ≡ Some d → find (λ m. m.number == b) (neighbours s d) ≡ Some n → Joined s a b n.size
found_joined s a b d n at_a at_b =
    let is_a : d.domain ≡ a = eqb-true d.domain a (found-passes (λ x. x.domain == a) (rising s) d at_a) in
    let is_b : n.number ≡ b = eqb-true n.number b (found-passes (λ m. m.number == b) (neighbours s d) n at_b) in
    let told = all-found (λ x. Has (λ y. y ≡ x) s.domains) (λ x. x.domain == a) (rising s) d (rising_told s) at_a in
    subst (λ x. Joined s x b n.size) is_a (subst (λ x. Joined s d.domain x n.size) is_b (all-found (λ m. Joined s d.domain m.number m.size) (λ m. m.number == b) (neighbours s d) n (neighbours_join s d told) at_b))

named : (o : Option Neighbour) (n : Neighbour) (number size : ℕ) → o ≡ Some n → n.number ≡ number → n.size ≡ size → o ≡ Some (neighbour number size)
named o n number size found is sized = let m : n ≡ neighbour number size = ap₂ neighbour is sized in cc

-- a neighbour is a domain, of which the domain is a neighbour with as many buffers
pub neighbour-back : (s : Scenario) → IsLinkedBoard s → (a b : ℕ) (d : DomainLine) (n : Neighbour) → find (λ x. x.domain == a) (rising s) ≡ Some d → find (λ m. m.number == b) (neighbours s d) ≡ Some n →
    (e : DomainLine) × (find (λ x. x.domain == b) (rising s) ≡ Some e) × (find (λ m. m.number == a) (neighbours s e) ≡ Some (neighbour a n.size))
neighbour-back s board a b d n at_a at_b = go (told_found s board b (joined-leads s board a b n.size joined).told)
  where
    joined : Joined s a b n.size
    joined = found_joined s a b d n at_a at_b

    go : ((e : DomainLine) × (find (λ x. x.domain == b) (rising s) ≡ Some e)) → (e : DomainLine) × (find (λ x. x.domain == b) (rising s) ≡ Some e) × (find (λ m. m.number == a) (neighbours s e) ≡ Some (neighbour a n.size))
    go (e, at) = (e, at, ends (found_neighbour s board b a n.size e at (eqb-true e.domain b (found-passes (λ x. x.domain == b) (rising s) e at)) (joined_back s a b n.size joined)))
      where
        ends : ((m : Neighbour) × (find (λ k. k.number == a) (neighbours s e) ≡ Some m) × (m.size ≡ n.size)) → find (λ k. k.number == a) (neighbours s e) ≡ Some (neighbour a n.size)
        ends (m, back, sized) = named (find (λ k. k.number == a) (neighbours s e)) m a n.size back (eqb-true m.number a (found-passes (λ k. k.number == a) (neighbours s e) m back)) sized
