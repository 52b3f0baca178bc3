-- The first of many that passes, looked for one number after the other.
use Rattle.std.proofs.Common.{◌≡◌, ◌∙◌, ◌<◌, ◌+◌, ◌-◌, ℕ, zero, suc, Bool, List, [], ◌∷◌, ◌++◌, find, option_map, Option, None, Some, refl, ap, arith}
use Rattle.std.specs.List.{flat_map, range_with_len}
use Rattle.std.specs.Option.{option_or}
use Rattle.std.proofs.lemmas.List.Folds.{find-append}
use Rattle.std.proofs.lemmas.Grind.{flat_map-append}
use Rattle.ring_trace.specs.ImageFaults.{Rule, is_broken, first_broken}

-- the place of the first of two
map-or : (o p : Option Rule) → option_map (λ r. r.place) (option_or o p) ≡ option_or (option_map (λ r. r.place) o) (option_map (λ r. r.place) p)
map-or None p = refl
map-or (Some r) p = refl

-- numbers in a row, split behind the first k
pub range-append : (a k n b m : ℕ) → m ≡ k + n → b ≡ a + k → range_with_len a m ≡ range_with_len a k ++ range_with_len b n
range-append a zero n b m all next = let same : b ≡ a = omega (arith, next) in let many : m ≡ n = omega (arith, all) in cc
range-append a (suc k) n b zero all next = absurd (omega (arith, all))
range-append a (suc k) n b (suc m) all next = ap (λ l. a ∷ l) (range-append (a + 1) k n b m (omega (arith, all)) (omega (arith, next)))

-- the numbers below n, split at i
pub below-split : (i n : ℕ) → i < n → range_with_len 0 n ≡ range_with_len 0 i ++ (i ∷ range_with_len (i + 1) (n - (i + 1)))
below-split i n h = range-append 0 i (suc (n - (i + 1))) i n (omega (arith, h)) (omega arith)

module _ {X : Type 0} (p : X → Bool) (f : ℕ → List X) where
  split-map : (i : ℕ) (rest : List ℕ) → flat_map f (range_with_len 0 i ++ (i ∷ rest)) ≡ flat_map f (range_with_len 0 i) ++ (f i ++ flat_map f rest)
  split-map i rest = flat_map-append f (range_with_len 0 i) (i ∷ rest)

  split-find : (i : ℕ) (rest : List ℕ) → find p (flat_map f (range_with_len 0 i ++ (i ∷ rest))) ≡ option_or (find p (flat_map f (range_with_len 0 i))) (option_or (find p (f i)) (find p (flat_map f rest)))
  split-find i rest =
      ap (find p) (split-map i rest)
      ∙ (find-append p (flat_map f (range_with_len 0 i)) (f i ++ flat_map f rest)
      ∙ ap (option_or (find p (flat_map f (range_with_len 0 i)))) (find-append p (f i) (flat_map f rest)))

  -- none so far, and none here
  pub none-more : (i : ℕ) → find p (flat_map f (range_with_len 0 i)) ≡ None → find p (f i) ≡ None → find p (flat_map f (range_with_len 0 (i + 1))) ≡ None
  none-more i before here =
      let numbers : range_with_len 0 (i + 1) ≡ range_with_len 0 i ++ (i ∷ []) = range-append 0 i 1 i (i + 1) refl (omega arith) in
      ap (λ l. find p (flat_map f l)) numbers ∙ (split-find i [] ∙ (ap (λ o. option_or o (option_or (find p (f i)) None)) before ∙ ap (λ o. option_or o None) here))

  -- none so far, and one here
  pub found-here : (i n : ℕ) (x : X) → i < n → find p (flat_map f (range_with_len 0 i)) ≡ None → find p (f i) ≡ Some x → find p (flat_map f (range_with_len 0 n)) ≡ Some x
  found-here i n x h before here =
      let rest = range_with_len (i + 1) (n - (i + 1)) in
      ap (λ l. find p (flat_map f l)) (below-split i n h) ∙ (split-find i rest ∙ (ap (λ o. option_or o (option_or (find p (f i)) (find p (flat_map f rest)))) before ∙ ap (λ o. option_or o (find p (flat_map f rest))) here))

-- the first broken rule of two lists, one after the other
pub first_append : (image : List ℕ) (xs ys : List Rule) → first_broken image (xs ++ ys) ≡ option_or (first_broken image xs) (first_broken image ys)
first_append image xs ys = ap (option_map (λ r. r.place)) (find-append (is_broken image) xs ys) ∙ map-or (find (is_broken image) xs) (find (is_broken image) ys)
