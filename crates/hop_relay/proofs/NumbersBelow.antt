-- The numbers below one: how many they are, that they rise, and which of them pass a test.
use Rattle.std.proofs.Common.{◌≡◌, ℕ, zero, suc, ◌+◌, ◌<◌, Bool, true, false, ◌||◌, List, [], ◌∷◌, ◌++◌, length, map, refl, sym, ap, ◌∙◌, arith, inl, inr, length-append}
use Rattle.std.specs.Prelude.{◌==◌}
use Rattle.std.specs.List.{AllByRecursion, list_any}
use Rattle.std.proofs.lemmas.Bool.{cases_Bool, eqb-false, eqb-true, or_from, or_left, or_right}
use Rattle.std.proofs.lemmas.List.{map-append}
use Rattle.std.proofs.lemmas.List.Folds.{list_any-append}
use Rattle.board_model.proofs.BoardsRising.{AreRising}
use Rattle.board_model.proofs.MessageAlls.{all-append, all-weaken}
use Rattle.hop_relay.specs.RelayBoard.{numbers_below}

pub less_other : (d n : ℕ) → d < suc n → (n ≡ d → ⊥) → d < n
less_other d n less other = omega arith

pub below-more : (n : ℕ) → numbers_below (n + 1) ≡ numbers_below n ++ n ∷ []
below-more n = let next : n + 1 ≡ suc n = omega arith in ap numbers_below next

pub length-below : (n : ℕ) → length (numbers_below n) ≡ n
length-below zero = refl
length-below (suc n) = omega (arith, length-append (numbers_below n) (n ∷ []), length-below n)

-- a list of what these numbers stand for, with one item more
pub next-mapped : {A : Type 0} (f : ℕ → A) (n : ℕ) (before after : List A) (x : A) → after ≡ before ++ x ∷ [] → x ≡ f n → before ≡ map f (numbers_below n) → after ≡ map f (numbers_below (n + 1))
next-mapped {A = A} f n before after x longer is mapped =
    longer ∙ ap (λ (y : A). before ++ y ∷ []) is ∙ ap (λ (ys : List A). ys ++ f n ∷ []) mapped ∙ sym (ap (map f) (below-more n) ∙ map-append f (numbers_below n) (n ∷ []))

-- ---- a test

module _ (p : ℕ → Bool) where
  pub none-below : (n : ℕ) → ((d : ℕ) → d < n → p d ≡ false) → list_any p (numbers_below n) ≡ false
  none-below zero none = refl
  none-below (suc n) none =
      list_any-append p (numbers_below n) (n ∷ [])
      ∙ or_from (list_any p (numbers_below n)) (p n || false) (none-below n (λ d less. none d (omega (arith, less)))) (or_from (p n) false (none n (omega arith)) refl)

  pub some-below : (n d : ℕ) → d < n → p d ≡ true → list_any p (numbers_below n) ≡ true
  some-below zero d less passes = absurd (omega (arith, less))
  some-below (suc n) d less passes =
      list_any-append p (numbers_below n) (n ∷ [])
      ∙ elim (cases_Bool (n == d)) [
        | inl here ↦ or_right (list_any p (numbers_below n)) (p n || false) (or_left (p n) false (ap p (eqb-true n d here) ∙ passes))
        | inr other ↦ or_left (list_any p (numbers_below n)) (p n || false) (some-below n d (less_other d n less (eqb-false n d other)) passes)
      ]

-- ---- their order

rising-more : (ns : List ℕ) (n : ℕ) → AreRising ns → AllByRecursion (λ m. m < n) ns → AreRising (ns ++ n ∷ [])
rising-more [] n rising below = (tt, tt)
rising-more (m ∷ ms) n rising below = (all-append (λ k. m < k) ms (n ∷ []) rising.0 (below.0, tt), rising-more ms n rising.1 below.1)

all-below : (n : ℕ) → AllByRecursion (λ m. m < n) (numbers_below n)
all-below zero = tt
all-below (suc n) = all-append (λ m. m < suc n) (numbers_below n) (n ∷ []) (all-weaken (λ m. m < n) (λ m. m < suc n) (λ m less. omega (arith, less)) (numbers_below n) (all-below n)) (omega arith, tt)

pub below-rises : (n : ℕ) → AreRising (numbers_below n)
below-rises zero = tt
below-rises (suc n) = rising-more (numbers_below n) n (below-rises n) (all-below n)
