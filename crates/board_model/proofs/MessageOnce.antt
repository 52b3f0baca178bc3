-- Sums over lists, and keys that come once in a list.
use Rattle.std.proofs.Common.{◌≡◌, ◌⊎◌, ℕ, ◌+◌, ◌≤◌, Bool, true, false, cond, List, [], ◌∷◌, ◌++◌, map, length, refl, sym, ap, ◌∙◌, subst, arith, inl, inr}
use Rattle.std.specs.Prelude.{count_by, ◌==◌, Contains}
use Rattle.std.specs.List.{AllByRecursion, flat_map}
use Rattle.std.proofs.lemmas.List.{length-append}
use Rattle.std.proofs.lemmas.Bool.{eqb-true, eq-eqb, ne_eqb, cases_Bool}
use Rattle.std.proofs.lemmas.List.Elements.{Contains-append_cases, Contains-push_cases}
use Rattle.board_model.specs.LinkedBoard.{Differ}
use Rattle.board_model.proofs.ListsCounts.{count-append}

-- the sum of a number for each item
abbrev pub total : {A : Type 0} → (A → ℕ) → List A → ℕ
total f [] = 0
total f (x ∷ xs) = f x + total f xs

pub total-same : {A : Type 0} (f g : A → ℕ) (same : (x : A) → f x ≡ g x) (xs : List A) → total f xs ≡ total g xs
total-same f g same [] = refl
total-same f g same (x ∷ xs) = omega (arith, same x, total-same f g same xs)

pub total-each : {A : Type 0} (f g : A → ℕ) (xs : List A) → AllByRecursion (λ x. f x ≡ g x) xs → total f xs ≡ total g xs
total-each f g [] all = refl
total-each f g (x ∷ xs) all = omega (arith, all.0, total-each f g xs all.1)

pub total-zero : {A : Type 0} (f : A → ℕ) (zero : (x : A) → f x ≡ 0) (xs : List A) → total f xs ≡ 0
total-zero f zero [] = refl
total-zero f zero (x ∷ xs) = omega (arith, zero x, total-zero f zero xs)

pub total-sum : {A : Type 0} (f g h : A → ℕ) (sums : (x : A) → f x ≡ g x + h x) (xs : List A) → total f xs ≡ total g xs + total h xs
total-sum f g h sums [] = refl
total-sum f g h sums (x ∷ xs) = omega (arith, sums x, total-sum f g h sums xs)

pub total-append : {A : Type 0} (f : A → ℕ) (xs ys : List A) → total f (xs ++ ys) ≡ total f xs + total f ys
total-append f [] ys = omega arith
total-append f (x ∷ xs) ys = omega (arith, total-append f xs ys)

pub total-map : {A B : Type 0} (f : B → ℕ) (g : A → B) (xs : List A) → total f (map g xs) ≡ total (λ x. f (g x)) xs
total-map f g [] = refl
total-map f g (x ∷ xs) = ap (λ n. f (g x) + n) (total-map f g xs)

pub total-joined : {A B : Type 0} (f : B → ℕ) (g : A → List B) (xs : List A) → total f (flat_map g xs) ≡ total (λ x. total f (g x)) xs
total-joined f g [] = refl
total-joined f g (x ∷ xs) = total-append f (g x) (flat_map g xs) ∙ ap (λ n. total f (g x) + n) (total-joined f g xs)

pub count-joined : {A B : Type 0} (test : B → Bool) (g : A → List B) (xs : List A) → count_by test (flat_map g xs) ≡ total (λ x. count_by test (g x)) xs
count-joined test g [] = refl
count-joined test g (x ∷ xs) = count-append test (g x) (flat_map g xs) ∙ ap (λ n. count_by test (g x) + n) (count-joined test g xs)

pub length-joined : {A B : Type 0} (f : A → List B) (xs : List A) → length (flat_map f xs) ≡ total (λ x. length (f x)) xs
length-joined f [] = refl
length-joined f (x ∷ xs) = length-append (f x) (flat_map f xs) ∙ ap (λ n. length (f x) + n) (length-joined f xs)

-- the order of two sums does not matter
pub total-swap : {A B : Type 0} (f : A → B → ℕ) (xs : List A) (ys : List B) → total (λ x. total (f x) ys) xs ≡ total (λ y. total (λ x. f x y) xs) ys
total-swap f [] ys = sym (total-zero (λ y. 0) (λ y. refl) ys)
total-swap f (x ∷ xs) ys =
    ap (λ n. total (f x) ys + n) (total-swap f xs ys)
    ∙ sym (total-sum (λ y. f x y + total (λ z. f z y) xs) (f x) (λ y. total (λ z. f z y) xs) (λ y. refl) ys)

-- ---- one of a sum

-- how often a number comes
abbrev pub times : {A : Type 0} → (A → ℕ) → ℕ → List A → ℕ
times key n xs = total (λ x. cond (n == key x) 1 0) xs

module _ {A : Type 0} (key : A → ℕ) (n : ℕ) (f : A → ℕ) where
  -- the items with this number alone
  abbrev pub only : A → ℕ
  only x = cond (n == key x) (f x) 0

  never_here : (b : Bool) (x : A) (k m : ℕ) → cond b 1 0 + k ≡ 0 → (k ≡ 0 → m ≡ 0) → cond b (f x) 0 + m ≡ 0
  never_here true x k m none rest = absurd (omega arith)
  never_here false x k m none rest = let zero : m ≡ 0 = rest (omega arith) in omega arith

  pub total-never : (xs : List A) → times key n xs ≡ 0 → total only xs ≡ 0
  total-never [] none = refl
  total-never (x ∷ xs) none = never_here (n == key x) x (times key n xs) (total only xs) none (λ h. total-never xs h)

  once_here : (b : Bool) (x : A) (k m v : ℕ) → (b ≡ true → f x ≡ v) → cond b 1 0 + k ≡ 1 → (k ≡ 0 → m ≡ 0) → (k ≡ 1 → m ≡ v) → cond b (f x) 0 + m ≡ v
  once_here true x k m v is one none rest = omega (arith, is refl, none (omega arith))
  once_here false x k m v is one none rest = let all : m ≡ v = rest (omega arith) in omega arith

  -- where each item with this number has this value
  pub total-once : (v : ℕ) (is : (x : A) → key x ≡ n → f x ≡ v) (xs : List A) → times key n xs ≡ 1 → total only xs ≡ v
  total-once v is [] one = absurd (omega arith)
  total-once v is (x ∷ xs) one =
      once_here (n == key x) x (times key n xs) (total only xs) v (λ it. is x (sym (eqb-true n (key x) it))) one (λ h. total-never xs h) (λ h. total-once v is xs h)

-- ---- numbers that differ

pub one_off : (b : Bool) (k : ℕ) → b ≡ false → cond b 1 0 + k ≡ k
one_off true k off = absurd cc
one_off false k off = omega arith

pub one_on : (b : Bool) (k : ℕ) → b ≡ true → k ≡ 0 → cond b 1 0 + k ≡ 1
one_on true k on none = omega arith
one_on false k on none = absurd cc

pub none_same : (n : ℕ) (ns : List ℕ) → AllByRecursion (λ m. m ≡ n → ⊥) ns → times (λ m. m) n ns ≡ 0
none_same n [] all = refl
none_same n (m ∷ ms) all = one_off (n == m) (times (λ k. k) n ms) (ne_eqb n m (λ e. all.0 (sym e))) ∙ none_same n ms all.1

contains_here : (m n : ℕ) (ms : List ℕ) → Contains (m ∷ ms) n → (m ≡ n) ⊎ Contains ms n
contains_here m n ms has = elim (Contains-append_cases (m ∷ []) ms n has) [
  | inl one ↦ elim (Contains-push_cases [] m n one) [ inl none ↦ absurd (not_in n none) | inr is ↦ inl is ]
  | inr rest ↦ inr rest
]
  where
    not_in : (n : ℕ) → Contains [] n → ⊥
    not_in n none = let low = none.1 in omega arith

same_here : (m n : ℕ) (ms : List ℕ) → AllByRecursion (λ k. k ≡ m → ⊥) ms → m ≡ n → times (λ k. k) n (m ∷ ms) ≡ 1
same_here m n ms others is = subst (λ (k : ℕ). times (λ j. j) k (m ∷ ms) ≡ 1) is (one_on (m == m) (times (λ k. k) m ms) (eq-eqb m m refl) (none_same m ms others))

-- a number that is in a list in which no number comes twice
pub differ-once : (n : ℕ) (ns : List ℕ) → Differ ns → Contains ns n → times (λ m. m) n ns ≡ 1
differ-once n [] differ has = let low = has.1 in absurd (omega arith)
differ-once n (m ∷ ms) differ has =
    elim (contains_here m n ms has) [
      | inl is ↦ same_here m n ms differ.0 is
      | inr rest ↦ other_here m n ms differ.0 (differ-once n ms differ.1 rest)
    ]
  where
    other_here : (m n : ℕ) (ms : List ℕ) → AllByRecursion (λ k. k ≡ m → ⊥) ms → times (λ k. k) n ms ≡ 1 → times (λ k. k) n (m ∷ ms) ≡ 1
    other_here m n ms others rest =
        elim (cases_Bool (n == m)) [
          | inl it ↦ same_here m n ms others (sym (eqb-true n m it))
          | inr not_it ↦ one_off (n == m) (times (λ k. k) n ms) not_it ∙ rest
        ]

pub differ-few : (n : ℕ) (ns : List ℕ) → Differ ns → times (λ m. m) n ns ≤ 1
differ-few n [] differ = omega arith
differ-few n (m ∷ ms) differ =
    elim (cases_Bool (n == m)) [
      | inl it ↦ let one : times (λ k. k) n (m ∷ ms) ≡ 1 = same_here m n ms differ.0 (sym (eqb-true n m it)) in omega arith
      | inr not_it ↦ rw (one_off (n == m) (times (λ k. k) n ms) not_it) (differ-few n ms differ.1)
    ]
