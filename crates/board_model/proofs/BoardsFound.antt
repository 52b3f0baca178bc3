-- Boards of linked domains: the domain of a number and the neighbour of a number, by the lines of the scenario, and lists in rising
-- number, number by number.
use Rattle.std.proofs.Common.{◌≡◌, ℕ, suc, ◌+◌, ◌<◌, ◌≤◌, Bool, true, false, ◌&&◌, ◌||◌, cond, List, [], ◌∷◌, ◌++◌, map, Option, Some, find, filter, flat_map, option_map, option_to_list, refl, sym, ap, ◌∙◌, subst, arith, inl, inr, eqb-true}
use Rattle.std.specs.Prelude.{◌==◌, nat_lt}
use Rattle.std.specs.List.{AllByRecursion}
use Rattle.std.proofs.lemmas.Bool.{cond_both, lt-ltb, le-ltb}
use Rattle.std.proofs.lemmas.Bool.Decides.{eqb_tells, leb_tells}
use Rattle.board_model.specs.declared.scenario.DomainLine.{DomainLine}
use Rattle.board_model.specs.declared.scenario.LinkLine.{LinkLine}
use Rattle.board_model.specs.declared.scenario.Scenario.{Scenario}
use Rattle.board_model.specs.Scenario.{Neighbour, neighbour, linked_by, ranked, all_ranked, neighbours, ranked_domain, rising_from, rising}
use Rattle.board_model.specs.LinkedBoard.{Differ, Joins, IsLinkedBoard}
use Rattle.board_model.proofs.MessageAlls.{all-weaken}
use Rattle.board_model.proofs.ListsApart.{all-unmap}
use Rattle.board_model.proofs.PlaceBoards.{rising_all, ranked_all, neighbours_apart}
use Rattle.board_model.proofs.BoardsRising.{AreRising}

-- ---- a list in rising number, number by number

-- those whose number is below this
abbrev pub below : {A : Type 0} → (A → ℕ) → ℕ → List A → List A
below key i xs = filter (λ x. nat_lt (key x) i) xs

abbrev pub of_number : {A : Type 0} → (A → ℕ) → ℕ → List A → Option A
of_number key i xs = find (λ x. key x == i) xs

module _ {A : Type 0} (key : A → ℕ) where
  none_below : (i : ℕ) (xs : List A) → AllByRecursion (λ x. i ≤ key x) xs → below key i xs ≡ []
  none_below i [] all = refl
  none_below i (x ∷ xs) all = let not_yet = le-ltb (key x) i all.0 in rw not_yet (none_below i xs all.1)

  -- those below the next number are those below this one, and the one of this number if there is one
  abbrev Next : ℕ → List A → Type 0
  Next i xs = below key (i + 1) xs ≡ below key i xs ++ option_to_list (of_number key i xs)

  next_same : (i : ℕ) (x : A) (xs : List A) → (key x == i) ≡ true → key x ≡ i → AllByRecursion (λ y. key x < key y) xs → Next i (x ∷ xs)
  next_same i x xs at same later =
      let now = lt-ltb (key x) (i + 1) (omega arith) in
      let not_yet = le-ltb (key x) i (omega arith) in
      let rest = none_below (i + 1) xs (all-weaken (λ y. key x < key y) (λ y. i + 1 ≤ key y) (λ y above. omega arith) xs later) in
      let front = none_below i xs (all-weaken (λ y. key x < key y) (λ y. i ≤ key y) (λ y above. omega arith) xs later) in
      rw (now, not_yet, at, rest, front) refl

  next_before : (i : ℕ) (x : A) (xs : List A) → (key x == i) ≡ false → key x < i → Next i xs → Next i (x ∷ xs)
  next_before i x xs other less rest =
      let now = lt-ltb (key x) (i + 1) (omega arith) in
      let already = lt-ltb (key x) i less in
      rw (now, already, other) (ap (λ ys. x ∷ ys) rest)

  next_behind : (i : ℕ) (x : A) (xs : List A) → (key x == i) ≡ false → (key x ≡ i → ⊥) → i < suc (key x) → Next i xs → Next i (x ∷ xs)
  next_behind i x xs other apart more rest =
      let not_now = le-ltb (key x) (i + 1) (omega arith) in
      let not_yet = le-ltb (key x) i (omega arith) in
      rw (not_now, not_yet, other) rest

  pub rising-next : (i : ℕ) (xs : List A) → AreRising (map key xs) → below key (i + 1) xs ≡ below key i xs ++ option_to_list (of_number key i xs)
  rising-next i [] rising = refl
  rising-next i (x ∷ xs) rising = elim (eqb_tells (key x) i) [
    | inl same ↦ next_same i x xs same.0 same.1 (all-unmap (λ m. key x < m) key xs rising.0)
    | inr other ↦ elim (leb_tells (suc (key x)) i) [
      | inl less ↦ next_before i x xs other.0 less.1 (rising-next i xs rising.1)
      | inr more ↦ next_behind i x xs other.0 other.1 more.1 (rising-next i xs rising.1)
    ]
  ]

  -- below a number that is above all, there are all
  pub rising-done : (i : ℕ) (xs : List A) → AllByRecursion (λ x. key x < i) xs → below key i xs ≡ xs
  rising-done i [] all = refl
  rising-done i (x ∷ xs) all = let now = lt-ltb (key x) i all.0 in rw now (ap (λ ys. x ∷ ys) (rising-done i xs all.1))

-- ---- an item put where the numbers rise

module _ {A : Type 0} (key : A → ℕ) (put : A → List A → List A) (first : (x : A) → put x [] ≡ x ∷ []) (more : (x y : A) (ys : List A) → put x (y ∷ ys) ≡ cond (nat_lt (key x) (key y)) (x ∷ y ∷ ys) (y ∷ put x ys)) where
  turned : (x y : A) (a b : Bool) (o : Option A) → (a ≡ true → b ≡ true → ⊥) → cond b (Some y) (cond a (Some x) o) ≡ cond a (Some x) (cond b (Some y) o)
  turned x y true true o apart = absurd (apart refl refl)
  turned x y true false o apart = refl
  turned x y false b o apart = refl

  put_found : (n : ℕ) (x : A) (ys : List A) → AllByRecursion (λ m. m ≡ key x → ⊥) (map key ys) → find (λ y. key y == n) (put x ys) ≡ find (λ y. key y == n) (x ∷ ys)
  put_found n x [] apart = ap (find (λ y. key y == n)) (first x)
  put_found n x (y ∷ ys) apart =
      subst (λ zs. find (λ z. key z == n) zs ≡ find (λ z. key z == n) (x ∷ y ∷ ys)) (sym (more x y ys))
      (cond_both (nat_lt (key x) (key y)) (x ∷ y ∷ ys) (y ∷ put x ys) (λ zs. find (λ z. key z == n) zs ≡ find (λ z. key z == n) (x ∷ y ∷ ys)) (λ before. refl)
      (λ behind. ap (λ o. cond (key y == n) (Some y) o) (put_found n x ys apart.1) ∙ turned x y (key x == n) (key y == n) (find (λ z. key z == n) ys) (λ a b. apart.0 (eqb-true (key y) n b ∙ sym (eqb-true (key x) n a)))))

-- ---- the domains

from_found : (n : ℕ) (ds : List DomainLine) → Differ (map (λ d. d.domain) ds) → find (λ d. d.domain == n) (rising_from ds) ≡ find (λ d. d.domain == n) ds
from_found n [] differ = refl
from_found n (d ∷ ds) differ =
    put_found (λ (e : DomainLine). e.domain) ranked_domain (λ x. refl) (λ x y ys. refl) n d (rising_from ds) (rising_all (λ m. m ≡ d.domain → ⊥) ds differ.0)
    ∙ ap (λ o. cond (d.domain == n) (Some d) o) (from_found n ds differ.1)

-- a domain in rising number is that of the scenario's lines
pub domain-at : (s : Scenario) → IsLinkedBoard s → (n : ℕ) → find (λ d. d.domain == n) (rising s) ≡ find (λ d. d.domain == n) s.domains
domain-at s board n = from_found n s.domains board.domains_differ

-- ---- the neighbours of a domain

ranked_found : (k : ℕ) (ns : List Neighbour) → Differ (map (λ n. n.number) ns) → find (λ n. n.number == k) (all_ranked ns) ≡ find (λ n. n.number == k) ns
ranked_found k [] differ = refl
ranked_found k (n ∷ ns) differ =
    put_found (λ (m : Neighbour). m.number) ranked (λ x. refl) (λ x y ys. refl) k n (all_ranked ns) (ranked_all (λ m. m ≡ n.number → ⊥) ns differ.0)
    ∙ ap (λ o. cond (n.number == k) (Some n) o) (ranked_found k ns differ.1)

-- a link joins these two
abbrev pub is_link_of : ℕ → ℕ → LinkLine → Bool
is_link_of d n l = (l.driver == d && l.device == n) || (l.device == d && l.driver == n)

module _ (n : ℕ) (l : LinkLine) (rest : List Neighbour) (others : Option LinkLine) (found : find (λ m. m.number == n) rest ≡ option_map (λ k. neighbour n k.size) others) where
  end_at : (number : ℕ) (c : Bool) → (number == n) ≡ c → cond (number == n) (Some (neighbour number l.size)) (find (λ m. m.number == n) rest) ≡ option_map (λ k. neighbour n k.size) (cond c (Some l) others)
  end_at number true at = rw at (ap (λ k. Some (neighbour k l.size)) (eqb-true number n at))
  end_at number false at = rw at found

  -- at the other end of the link, or further on
  ends_at : (a b c e : Bool) → (a ≡ true → b ≡ true → ⊥) → (l.device == n) ≡ c → (l.driver == n) ≡ e →
      find (λ m. m.number == n) (cond a (neighbour l.device l.size ∷ []) (cond b (neighbour l.driver l.size ∷ []) []) ++ rest) ≡ option_map (λ k. neighbour n k.size) (cond ((a && c) || (b && e)) (Some l) others)
  ends_at true true c e apart device driver = absurd (apart refl refl)
  ends_at true false true e apart device driver = end_at l.device true device
  ends_at true false false e apart device driver = end_at l.device false device
  ends_at false true c e apart device driver = end_at l.driver e driver
  ends_at false false c e apart device driver = found

linked_at : (s : Scenario) (d n : ℕ) (ls : List LinkLine) → AllByRecursion (Joins s) ls → find (λ m. m.number == n) (flat_map (linked_by d) ls) ≡ option_map (λ l. neighbour n l.size) (find (is_link_of d n) ls)
linked_at s d n [] all = refl
linked_at s d n (l ∷ ls) all =
    ends_at n l (flat_map (linked_by d) ls) (find (is_link_of d n) ls) (linked_at s d n ls all.1) (l.driver == d) (l.device == d) (l.device == n) (l.driver == n)
    (λ driver device. all.0.two_domains (eqb-true l.driver d driver ∙ sym (eqb-true l.device d device))) refl refl

-- the neighbour of a number is the domain itself, or the other end of a link
pub neighbour-at : (s : Scenario) → IsLinkedBoard s → (d : DomainLine) (n : ℕ) →
    find (λ m. m.number == n) (neighbours s d) ≡ cond (d.domain == n) (Some (neighbour d.domain d.pool)) (option_map (λ l. neighbour n l.size) (find (is_link_of d.domain n) s.links))
neighbour-at s board d n =
    ranked_found n (neighbour d.domain d.pool ∷ flat_map (linked_by d.domain) s.links) (neighbours_apart s board d)
    ∙ ap (λ o. cond (d.domain == n) (Some (neighbour d.domain d.pool)) o) (linked_at s d.domain n s.links board.links_join)
