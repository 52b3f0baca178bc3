-- The best item of a queue: what a map of its items keeps, how many pass a test with it and without it, and that there is
-- one where the queue is not empty.
use Rattle.std.proofs.Common.{◌≡◌, ℕ, ◌+◌, Bool, true, false, cond, List, [], ◌∷◌, map, sum_by, Option, Some, None, refl, sym, ap, ◌∙◌, arith}
use Rattle.std.specs.Prelude.{find, count_by, option_map, option_to_list, ◌==◌}
use Rattle.std.specs.List.{AllByRecursion}
use Rattle.std.proofs.lemmas.List.Sums.{sum_by-cons}
use Rattle.board_model.specs.Choice.{least, best, without_best}
use Rattle.board_model.proofs.MessageAlls.{none-passes}
use Rattle.board_model.proofs.MessageLists.{without_first, best_is, without_best_is}

-- ---- where there is no best

none_here : {A : Type 0} (b : Bool) (x : A) (o : Option A) (xs ys : List A) → (o ≡ None → ys ≡ xs) → cond b (Some x) o ≡ None → cond b xs (x ∷ ys) ≡ x ∷ xs
none_here true x o xs ys same none = absurd cc
none_here false x o xs ys same none = ap (λ zs. x ∷ zs) (same none)

pub without_first-none : {A : Type 0} (p : A → Bool) (xs : List A) → find p xs ≡ None → without_first p xs ≡ xs
without_first-none p [] none = refl
without_first-none p (x ∷ xs) none = none_here (p x) x (find p xs) xs (without_first p xs) (λ e. without_first-none p xs e) none

pub without_best-none : {A : Type 0} (priority : A → ℕ) (q : List A) → best priority q ≡ None → without_best priority q ≡ q
without_best-none priority q none =
    without_best_is priority q ∙ without_first-none (λ x. priority x == least priority q) q (sym (best_is priority q) ∙ none)

-- ---- a queue without a best is empty

module _ {A : Type 0} (priority : A → ℕ) where
  none_least : (m : ℕ) (x : A) (xs : List A) → AllByRecursion (λ y. (priority y == m) ≡ false) (x ∷ xs) → m ≡ least priority (x ∷ xs) → ⊥
  none_least m x [] fails is = grind (arith, fails.0)
  none_least m x (y ∷ ys) fails is =
      let differs : m ≡ priority x → ⊥ = λ same. grind (arith, fails.0) in
      let rest : m ≡ least priority (y ∷ ys) = omega arith in
      none_least m y ys fails.1 rest

  pub best-none : (q : List A) → best priority q ≡ None → q ≡ []
  best-none [] none = refl
  best-none (x ∷ xs) none = absurd (none_least (least priority (x ∷ xs)) x xs (none-passes (λ y. priority y == least priority (x ∷ xs)) (x ∷ xs) (sym (best_is priority (x ∷ xs)) ∙ none)) refl)

-- ---- counts

pub count-cons : {A : Type 0} (test : A → Bool) (x : A) (xs : List A) → count_by test (x ∷ xs) ≡ cond (test x) 1 0 + count_by test xs
count-cons test x xs = sum_by-cons (λ y. cond (test y) 1 0) x xs

sum_here : {A : Type 0} (w : A → ℕ) (b : Bool) (x : A) (o : Option A) (xs ys : List A) → sum_by w (option_to_list o) + sum_by w ys ≡ sum_by w xs → sum_by w (option_to_list (cond b (Some x) o)) + sum_by w (cond b xs (x ∷ ys)) ≡ sum_by w (x ∷ xs)
sum_here w true x o xs ys h = omega (arith, sum_by-cons w x xs, sum_by-cons w x [])
sum_here w false x o xs ys h = omega (arith, sum_by-cons w x xs, sum_by-cons w x ys)

sum_first : {A : Type 0} (w : A → ℕ) (p : A → Bool) (xs : List A) → sum_by w (option_to_list (find p xs)) + sum_by w (without_first p xs) ≡ sum_by w xs
sum_first w p [] = refl
sum_first w p (x ∷ xs) = sum_here w (p x) x (find p xs) xs (without_first p xs) (sum_first w p xs)

pub sum-best : {A : Type 0} (w : A → ℕ) (priority : A → ℕ) (q : List A) → sum_by w (option_to_list (best priority q)) + sum_by w (without_best priority q) ≡ sum_by w q
sum-best w priority q = rw (best_is priority q, without_best_is priority q) (sum_first w (λ x. priority x == least priority q) q)

pub count-best : {A : Type 0} (test : A → Bool) (priority : A → ℕ) (q : List A) → count_by test (option_to_list (best priority q)) + count_by test (without_best priority q) ≡ count_by test q
count-best test priority q = sum-best (λ x. cond (test x) 1 0) priority q

-- ---- under a map that keeps the priority

module _ {A B : Type 0} (g : A → B) (priority : A → ℕ) (outer : B → ℕ) (same : (x : A) → outer (g x) ≡ priority x) where
  least-map : (q : List A) → least outer (map g q) ≡ least priority q
  least-map [] = refl
  least-map (x ∷ []) = same x
  least-map (x ∷ y ∷ xs) = rw (same x, least-map (y ∷ xs)) refl

  find_map_here : (b c : Bool) (x : A) (o : Option A) (r : Option B) → b ≡ c → r ≡ option_map g o → cond b (Some (g x)) r ≡ option_map g (cond c (Some x) o)
  find_map_here b true x o r e f = rw e refl
  find_map_here b false x o r e f = rw e f

  find-map : (n : ℕ) (q : List A) → find (λ y. outer y == n) (map g q) ≡ option_map g (find (λ x. priority x == n) q)
  find-map n [] = refl
  find-map n (x ∷ xs) = find_map_here (outer (g x) == n) (priority x == n) x (find (λ z. priority z == n) xs) (find (λ y. outer y == n) (map g xs)) (ap (λ m. m == n) (same x)) (find-map n xs)

  without_map_here : (b c : Bool) (x : A) (xs ys : List A) (zs : List B) → b ≡ c → zs ≡ map g ys → cond b (map g xs) (g x ∷ zs) ≡ map g (cond c xs (x ∷ ys))
  without_map_here b true x xs ys zs e f = rw e refl
  without_map_here b false x xs ys zs e f = rw e (ap (λ us. g x ∷ us) f)

  without-map : (n : ℕ) (q : List A) → without_first (λ y. outer y == n) (map g q) ≡ map g (without_first (λ x. priority x == n) q)
  without-map n [] = refl
  without-map n (x ∷ xs) = without_map_here (outer (g x) == n) (priority x == n) x xs (without_first (λ z. priority z == n) xs) (without_first (λ y. outer y == n) (map g xs)) (ap (λ m. m == n) (same x)) (without-map n xs)

  pub best-map : (q : List A) → best outer (map g q) ≡ option_map g (best priority q)
  best-map q =
      best_is outer (map g q) ∙ (ap (λ n. find (λ y. outer y == n) (map g q)) (least-map q) ∙ (find-map (least priority q) q ∙ ap (option_map g) (sym (best_is priority q))))

  pub without_best-map : (q : List A) → without_best outer (map g q) ≡ map g (without_best priority q)
  without_best-map q =
      without_best_is outer (map g q) ∙ (ap (λ n. without_first (λ y. outer y == n) (map g q)) (least-map q) ∙ (without-map (least priority q) q ∙ ap (map g) (sym (without_best_is priority q))))
