-- Boards of linked domains: the domains and the neighbours of a domain stand in rising number.
use Rattle.std.proofs.Common.{◌≡◌, ℕ, ◌+◌, ◌<◌, ◌≤◌, cond, List, [], ◌∷◌, map, length, refl, sym, subst, arith}
use Rattle.std.specs.Prelude.{nat_lt}
use Rattle.std.specs.List.{AllByRecursion, flat_map}
use Rattle.std.proofs.lemmas.Bool.{cond_both, ltb-true, ltb-false}
use Rattle.board_model.specs.declared.scenario.DomainLine.{DomainLine}
use Rattle.board_model.specs.declared.scenario.Scenario.{Scenario}
use Rattle.board_model.specs.Scenario.{Neighbour, neighbour, linked_by, ranked, all_ranked, neighbours, ranked_domain, rising_from, rising}
use Rattle.board_model.specs.LinkedBoard.{Differ, IsLinkedBoard}
use Rattle.board_model.proofs.MessageAlls.{all-weaken, all-with}
use Rattle.board_model.proofs.PlaceBoards.{rising_differ, neighbours_differ}

-- each number is above those before it, or as great
abbrev AreRanked : List ℕ → Type 0
AreRanked [] = Unit {0}
AreRanked (n ∷ ns) = AllByRecursion (λ m. n ≤ m) ns × AreRanked ns

-- each number is above those before it
abbrev pub AreRising : List ℕ → Type 0
AreRising [] = Unit {0}
AreRising (n ∷ ns) = AllByRecursion (λ m. n < m) ns × AreRising ns

ranked_rise : (ns : List ℕ) → AreRanked ns → Differ ns → AreRising ns
ranked_rise [] order differ = tt
ranked_rise (n ∷ ns) order differ =
    (all-with (λ m. n ≤ m) (λ m. m ≡ n → ⊥) (λ m. n < m) (λ m above other. above_other n m above other) ns order.0 differ.0, ranked_rise ns order.1 differ.1)
  where
    above_other : (k m : ℕ) → k ≤ m → (m ≡ k → ⊥) → k < m
    above_other k m above other = omega arith

-- no more than there are numbers between two
pub rising-few : (from to : ℕ) (ns : List ℕ) → from ≤ to → AreRising ns → AllByRecursion (λ n. from ≤ n) ns → AllByRecursion (λ n. n < to) ns → from + length ns ≤ to
rising-few from to [] within rising above below = omega arith
rising-few from to (n ∷ ns) within rising above below =
    let rest = rising-few (n + 1) to ns (omega (arith, below.0)) rising.1 (all-weaken (λ m. n < m) (λ m. n + 1 ≤ m) (λ m less. omega arith) ns rising.0) below.1 in
    omega (arith, above.0, rest)

-- ---- an item put where the numbers rise

module _ {A : Type 0} (key : A → ℕ) (put : A → List A → List A) (first : (x : A) → put x [] ≡ x ∷ []) (more : (x y : A) (ys : List A) → put x (y ∷ ys) ≡ cond (nat_lt (key x) (key y)) (x ∷ y ∷ ys) (y ∷ put x ys)) where
  put_all : (P : ℕ → Type 0) (x : A) (ys : List A) → P (key x) → AllByRecursion P (map key ys) → AllByRecursion P (map key (put x ys))
  put_all P x [] here all = subst (λ zs. AllByRecursion P (map key zs)) (sym (first x)) (here, tt)
  put_all P x (y ∷ ys) here all =
      subst (λ zs. AllByRecursion P (map key zs)) (sym (more x y ys))
      (cond_both (nat_lt (key x) (key y)) (x ∷ y ∷ ys) (y ∷ put x ys) (λ zs. AllByRecursion P (map key zs)) (λ before. (here, all)) (λ behind. (all.0, put_all P x ys here all.1)))

  put_ranked : (x : A) (ys : List A) → AreRanked (map key ys) → AreRanked (map key (put x ys))
  put_ranked x [] order = subst (λ zs. AreRanked (map key zs)) (sym (first x)) (tt, tt)
  put_ranked x (y ∷ ys) order =
      subst (λ zs. AreRanked (map key zs)) (sym (more x y ys))
      (cond_both (nat_lt (key x) (key y)) (x ∷ y ∷ ys) (y ∷ put x ys) (λ zs. AreRanked (map key zs))
      (λ before. let less = ltb-true (key x) (key y) before in ((omega arith, all-weaken (λ m. key y ≤ m) (λ m. key x ≤ m) (λ m above. omega (arith, less)) (map key ys) order.0), order))
      (λ behind. (put_all (λ m. key y ≤ m) x ys (ltb-false (key x) (key y) behind) order.0, put_ranked x ys order.1)))

-- ---- the domains

rising_ranked : (ds : List DomainLine) → AreRanked (map (λ d. d.domain) (rising_from ds))
rising_ranked [] = tt
rising_ranked (d ∷ ds) = put_ranked (λ (e : DomainLine). e.domain) ranked_domain (λ x. refl) (λ x y ys. refl) d (rising_from ds) (rising_ranked ds)

pub rising-rises : (s : Scenario) → IsLinkedBoard s → AreRising (map (λ d. d.domain) (rising s))
rising-rises s board = ranked_rise (map (λ d. d.domain) (rising s)) (rising_ranked s.domains) (rising_differ s board)

-- ---- the neighbours of a domain

all_ranked_ranked : (ns : List Neighbour) → AreRanked (map (λ n. n.number) (all_ranked ns))
all_ranked_ranked [] = tt
all_ranked_ranked (n ∷ ns) = put_ranked (λ (m : Neighbour). m.number) ranked (λ x. refl) (λ x y ys. refl) n (all_ranked ns) (all_ranked_ranked ns)

pub neighbours-rise : (s : Scenario) → IsLinkedBoard s → (d : DomainLine) → AreRising (map (λ n. n.number) (neighbours s d))
neighbours-rise s board d = ranked_rise (map (λ n. n.number) (neighbours s d)) (all_ranked_ranked (neighbour d.domain d.pool ∷ flat_map (linked_by d.domain) s.links)) (neighbours_differ s board d)
