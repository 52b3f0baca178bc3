-- Numbers that rise by one: that they rise, and which of them pass a test.
use Rattle.std.proofs.Common.{◌≡◌, ℕ, zero, suc, ◌+◌, ◌≤◌, ◌<◌, Bool, true, false, List, [], ◌∷◌, ◌++◌, length, map, refl, sym, ap, ◌∙◌, arith, inl, inr}
use Rattle.std.specs.Prelude.{◌==◌}
use Rattle.std.specs.List.{AllByRecursion, list_any}
use Rattle.std.proofs.lemmas.Bool.{cases_Bool, eqb-false, eqb-true, or_from, or_left, or_right}
use Rattle.std.proofs.lemmas.List.{map-append}
use Rattle.board_model.proofs.BoardsRising.{AreRising}
use Rattle.call_service.specs.Served.{rising}

pub rising-more : (from n : ℕ) → rising from (n + 1) ≡ rising from n ++ (from + n) ∷ []
rising-more from n = let next : n + 1 ≡ suc n = omega arith in ap (rising from) next ∙ go from n
  where
    go : (from n : ℕ) → rising from (suc n) ≡ rising from n ++ (from + n) ∷ []
    go from zero = let same : from ≡ from + 0 = omega arith in ap (λ m. m ∷ []) same
    go from (suc n) = let same : from + 1 + n ≡ from + suc n = omega arith in ap (λ r. from ∷ r) (go (from + 1) n ∙ ap (λ m. rising (from + 1) n ++ m ∷ []) same)

pub length-rising : (from n : ℕ) → length (rising from n) ≡ n
length-rising from zero = refl
length-rising from (suc n) = ap suc (length-rising (from + 1) n)

-- a list of what these numbers stand for, with one item more
pub next-mapped : {A : Type 0} (f : ℕ → A) (from n : ℕ) (before after : List A) (x : A) → after ≡ before ++ x ∷ [] → x ≡ f (from + n) → before ≡ map f (rising from n) → after ≡ map f (rising from (n + 1))
next-mapped {A = A} f from n before after x longer is mapped =
    longer ∙ ap (λ (y : A). before ++ y ∷ []) is ∙ ap (λ (ys : List A). ys ++ f (from + n) ∷ []) mapped ∙ sym (ap (map f) (rising-more from n) ∙ map-append f (rising from n) ((from + n) ∷ []))

-- ---- a test

module _ (p : ℕ → Bool) where
  pub none-rising : (from n : ℕ) → ((d : ℕ) → from ≤ d → d < from + n → p d ≡ false) → list_any p (rising from n) ≡ false
  none-rising from zero none = refl
  none-rising from (suc n) none = or_from (p from) (list_any p (rising (from + 1) n)) (none from (omega arith) (omega arith)) (none-rising (from + 1) n (λ d low high. none d (omega (arith, low)) (omega (arith, high))))

  pub some-rising : (from n d : ℕ) → from ≤ d → d < from + n → p d ≡ true → list_any p (rising from n) ≡ true
  some-rising from zero d low high passes = absurd (omega (arith, low, high))
  some-rising from (suc n) d low high passes = elim (cases_Bool (from == d)) [
    | inl here ↦ or_left (p from) (list_any p (rising (from + 1) n)) (ap p (eqb-true from d here) ∙ passes)
    | inr other ↦ let apart : from ≡ d → ⊥ = eqb-false from d other in or_right (p from) (list_any p (rising (from + 1) n)) (some-rising (from + 1) n d (omega (arith, low)) (omega (arith, high)) passes)
  ]

-- ---- their order

all-above : (d from n : ℕ) → d < from → AllByRecursion (λ m. d < m) (rising from n)
all-above d from zero less = tt
all-above d from (suc n) less = (less, all-above d (from + 1) n (omega (arith, less)))

pub rising-rises : (from n : ℕ) → AreRising (rising from n)
rising-rises from zero = tt
rising-rises from (suc n) = (all-above from (from + 1) n (omega arith), rising-rises (from + 1) n)
