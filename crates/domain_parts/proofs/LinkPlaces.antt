-- The domain's own in its place among its links.
use Rattle.std.proofs.Common.{◌≡◌, ◌≢◌, ◌≤◌, ◌<◌, ◌+◌, ℕ, suc, Bool, true, false, cond, List, [], ◌∷◌, map, length, Some, None, refl, ap, ◌∙◌, eq-eqb, arith}
use Rattle.std.specs.Prelude.{Contains, filter, nat_lt, not, position, ◌==◌}
use Rattle.std.proofs.lemmas.Bool.{ltb-false, ltb-true, ne_eqb}
use Rattle.std.specs.List.{AllByRecursion, insert}
use Rattle.board_model.specs.LinkedBoard.{Differ}
use Rattle.board_model.proofs.ListsApart.{all-map, all-unmap}
use Rattle.board_model.proofs.MessageAlls.{all-weaken}
use Rattle.domain_parts.specs.declared.link.Link.{Link}
use Rattle.domain_parts.specs.Opened.{own_place, placed}
use Rattle.domain_parts.specs.Sound.{AreRising}
use Rattle.domain_parts.specs.Tied.{linked_among}
use Rattle.domain_parts.proofs.Filters.{filter-every}

pub map-map : {X Y Z : Type 0} (g : Y → Z) (f : X → Y) (xs : List X) → map g (map f xs) ≡ map (λ x. g (f x)) xs
map-map g f [] = refl
map-map {X} {Y} {Z} g f (x ∷ xs) = ap (λ (zs : List Z). g (f x) ∷ zs) (map-map g f xs)

pub map-same : {X Y : Type 0} (f g : X → Y) (xs : List X) → AllByRecursion (λ x. f x ≡ g x) xs → map f xs ≡ map g xs
map-same f g [] same = refl
map-same {X} {Y} f g (x ∷ xs) same = ap (λ (y : Y). y ∷ map f xs) same.0 ∙ ap (λ (ys : List Y). g x ∷ ys) (map-same f g xs same.1)

-- ---- numbers that rise

pub rising-differ : (ns : List ℕ) → AreRising ns → Differ ns
rising-differ [] rising = tt
rising-differ (n ∷ ns) rising = (all-weaken (λ m. n < m) (λ m. m ≡ n → ⊥) (λ m less same. omega (arith, less, same)) ns rising.0, rising-differ ns rising.1)

rising-few : (least : ℕ) (ns : List ℕ) → least ≤ 8 → AllByRecursion (λ n. least ≤ n) ns → AllByRecursion (λ n. n ≤ 7) ns → AreRising ns → length ns + least ≤ 8
rising-few least [] fits above few rising = omega (arith, fits)
rising-few least (n ∷ ns) fits above few rising =
    let next : n + 1 ≤ 8 = omega (arith, few.0) in
    omega (arith, above.0, rising-few (n + 1) ns next (all-weaken (λ m. n < m) (λ m. n + 1 ≤ m) (λ m less. omega (arith, less)) ns rising.0) few.1 rising.1)

all-least : (ns : List ℕ) → AllByRecursion (λ n. 0 ≤ n) ns
all-least [] = tt
all-least (n ∷ ns) = (omega arith, all-least ns)

-- no more than 8 are at most 7
pub length-rising : (ns : List ℕ) → AllByRecursion (λ n. n ≤ 7) ns → AreRising ns → length ns ≤ 8
length-rising ns few rising = let most = rising-few 0 ns (omega arith) (all-least ns) few rising in omega (arith, most)

-- ---- its place

module _ {S R : Type 0} (number : ℕ) where
  abbrev above : Link S R → Bool
  above l = nat_lt number l.peer

  place-within : (ls : List (Link S R)) → own_place number ls ≤ length ls
  place-within [] = omega arith
  place-within (l ∷ ls) =
      let rest = place-within ls in
      elim (above l) as (λ b. cond (not b) (1 + own_place number ls) 0 ≤ suc (length ls)) [ true ↦ omega arith | false ↦ omega (arith, rest) ]

  pub place-none : (ls : List (Link S R)) → position above ls ≡ None → length ls ≡ own_place number ls
  place-none ls is = go (nat_lt (own_place number ls) (length ls)) refl is
    where
      go : (b : Bool) → nat_lt (own_place number ls) (length ls) ≡ b → cond b (Some (own_place number ls)) None ≡ None → length ls ≡ own_place number ls
      go true lt e = absurd cc
      go false ge e = omega (arith, ltb-false (own_place number ls) (length ls) ge, place-within ls)

  pub placed-insert : {X : Type 0} (f : Link S R → X) (own : X) (ls : List (Link S R)) → insert (map f ls) (own_place number ls) own ≡ placed number f own ls
  placed-insert f own [] = refl
  placed-insert {X} f own (l ∷ ls) =
      let rest = placed-insert f own ls in
      elim (above l) as (λ b. insert (map f (l ∷ ls)) (cond (not b) (1 + own_place number ls) 0) own ≡ cond b (own ∷ map f (l ∷ ls)) (f l ∷ placed number f own ls))
      [ true ↦ refl | false ↦ let next : 1 + own_place number ls ≡ suc (own_place number ls) = omega arith in ap (λ (k : ℕ). insert (map f (l ∷ ls)) k own) next ∙ ap (λ (xs : List X). f l ∷ xs) rest ]

  -- ---- what stands in all places

  pub map-placed : {X Y : Type 0} (g : X → Y) (f : Link S R → X) (own : X) (ls : List (Link S R)) → map g (placed number f own ls) ≡ placed number (λ l. g (f l)) (g own) ls
  map-placed g f own [] = refl
  map-placed {X} {Y} g f own (l ∷ ls) =
      let rest = map-placed g f own ls in
      elim (above l) as (λ b. map g (cond b (own ∷ map f (l ∷ ls)) (f l ∷ placed number f own ls)) ≡ cond b (g own ∷ map (λ x. g (f x)) (l ∷ ls)) (g (f l) ∷ placed number (λ x. g (f x)) (g own) ls))
      [ true ↦ ap (λ (ys : List Y). g own ∷ g (f l) ∷ ys) (map-map g f ls) | false ↦ ap (λ (ys : List Y). g (f l) ∷ ys) rest ]

  pub placed-same : {X : Type 0} (f g : Link S R → X) (a b : X) (ls : List (Link S R)) → AllByRecursion (λ l. f l ≡ g l) ls → a ≡ b → placed number f a ls ≡ placed number g b ls
  placed-same {X} f g a b [] same own = ap (λ (x : X). x ∷ []) own
  placed-same {X} f g a b (l ∷ ls) same own =
      let rest = placed-same f g a b ls same.1 own in
      elim (above l) as (λ it. cond it (a ∷ map f (l ∷ ls)) (f l ∷ placed number f a ls) ≡ cond it (b ∷ map g (l ∷ ls)) (g l ∷ placed number g b ls)) [
        | true ↦ ap (λ (x : X). x ∷ map f (l ∷ ls)) own ∙ ap (λ (xs : List X). b ∷ xs) (map-same f g (l ∷ ls) same)
        | false ↦ ap (λ (x : X). x ∷ placed number f a ls) same.0 ∙ ap (λ (xs : List X). g l ∷ xs) rest
      ]

  pub all-placed : {X : Type 0} (P : X → Type 0) (f : Link S R → X) (own : X) (ls : List (Link S R)) → P own → AllByRecursion (λ l. P (f l)) ls → AllByRecursion P (placed number f own ls)
  all-placed P f own [] here each = (here, tt)
  all-placed P f own (l ∷ ls) here each =
      let rest = all-placed P f own ls here each.1 in
      elim (above l) as (λ b. AllByRecursion P (cond b (own ∷ map f (l ∷ ls)) (f l ∷ placed number f own ls)))
      [ true ↦ (here, all-map P f (l ∷ ls) each) | false ↦ (each.0, rest) ]

  -- ---- the numbers of the peers

  abbrev peer_of : Link S R → ℕ
  peer_of l = l.peer

  pub placed-rising : (ls : List (Link S R)) → AreRising (map peer_of ls) → AllByRecursion (λ l. l.peer ≢ number) ls → AreRising (placed number peer_of number ls)
  placed-rising [] rising others = (tt, tt)
  placed-rising (l ∷ ls) rising others =
      let rest = placed-rising ls rising.1 others.1 in
      elim (above l) as (λ b. above l ≡ b → AreRising (cond b (number ∷ map peer_of (l ∷ ls)) (l.peer ∷ placed number peer_of number ls))) [
        | true ↦ λ it. let less = ltb-true number l.peer it in ((less, all-weaken (λ m. l.peer < m) (λ m. number < m) (λ m more. omega (arith, less, more)) (map peer_of ls) rising.0), rising)
        | false ↦ λ it. let less : l.peer < number = omega (arith, ltb-false number l.peer it, others.0) in (all-placed (λ m. l.peer < m) peer_of number ls less (all-unmap (λ m. l.peer < m) peer_of ls rising.0), rest)
      ] refl

  pub placed-contains : (ls : List (Link S R)) → Contains (placed number peer_of number ls) number
  placed-contains [] = (0, omega arith, refl)
  placed-contains (l ∷ ls) =
      let rest = placed-contains ls in
      elim (above l) as (λ b. Contains (cond b (number ∷ map peer_of (l ∷ ls)) (l.peer ∷ placed number peer_of number ls)) number)
      [ true ↦ (0, omega arith, refl) | false ↦ (suc rest.0, omega (arith, rest.1), rest.2) ]

  filter-placed : (p : ℕ → Bool) → p number ≡ false → (ls : List (Link S R)) → AllByRecursion (λ l. p l.peer ≡ true) ls → filter p (placed number peer_of number ls) ≡ map peer_of ls
  filter-placed p none [] each = ap (λ (b : Bool). cond b (number ∷ []) []) none
  filter-placed p none (l ∷ ls) each =
      let rest = filter-placed p none ls each.1 in
      elim (above l) as (λ b. filter p (cond b (number ∷ map peer_of (l ∷ ls)) (l.peer ∷ placed number peer_of number ls)) ≡ map peer_of (l ∷ ls)) [
        | true ↦ ap (λ (b : Bool). cond b (number ∷ filter p (map peer_of (l ∷ ls))) (filter p (map peer_of (l ∷ ls)))) none ∙ filter-every p (map peer_of (l ∷ ls)) (all-map (λ n. p n ≡ true) peer_of (l ∷ ls) each)
        | false ↦ ap (λ (b : Bool). cond b (l.peer ∷ filter p (placed number peer_of number ls)) (filter p (placed number peer_of number ls))) each.0 ∙ ap (λ (ns : List ℕ). l.peer ∷ ns) rest
      ]

  pub placed-linked : (ls : List (Link S R)) → AllByRecursion (λ l. l.peer ≢ number) ls → linked_among number (placed number peer_of number ls) ≡ map peer_of ls
  placed-linked ls others =
      filter-placed (λ n. not (n == number)) (ap not (eq-eqb number number refl)) ls
      (all-weaken (λ (l : Link S R). l.peer ≢ number) (λ (l : Link S R). not (l.peer == number) ≡ true) (λ l other. ap not (ne_eqb l.peer number other)) ls others)
