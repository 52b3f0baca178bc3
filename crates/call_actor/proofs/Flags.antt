-- Flags of clients, one after the other.
use Rattle.std.proofs.Common.{◌≡◌, inl, inr, ℕ, zero, suc, ◌+◌, ◌<◌, ◌≤◌, Bool, true, false, List, refl, sym, ap, ap₂, ◌∙◌, arith}
use Rattle.std.specs.Prelude.{◌&&◌, ◌==◌, slice_index_or}
use Rattle.std.specs.List.{list_all}
use Rattle.std.proofs.lemmas.Bool.{cases_Bool, eqb-true, eq-eqb}
use Rattle.call_service.specs.Served.{rising}
use Rattle.call_actor.specs.ServerSteps.{have_left}

and_true : (a b : Bool) → a ≡ true → b ≡ true → (a && b) ≡ true
and_true a b one two = ap₂ (λ x y. x && y) one two

and_false : (a b : Bool) → b ≡ false → (a && b) ≡ false
and_false true b off = off
and_false false b off = refl

clash : (b : Bool) → b ≡ true → b ≡ false → ⊥
clash b one other = cc

above : (p : ℕ → Bool) (d from : ℕ) → from ≤ d → p from ≡ true → p d ≡ false → from + 1 ≤ d
above p d from le on off = elim (cases_Bool (from == d)) [
  | inl same ↦ absurd (clash (p d) (ap p (sym (eqb-true from d same)) ∙ on) off)
  | inr other ↦ let apart : from ≡ d → ⊥ = λ is. let t = eq-eqb from d is in cc in omega (arith, le, apart)
]

module _ (p : ℕ → Bool) where
  last_true : (from n : ℕ) → list_all p (rising from n) ≡ true → p (from + n) ≡ true → list_all p (rising from (suc n)) ≡ true
  last_true from zero all last = and_true (p from) true (ap p (omega arith) ∙ last) refl
  last_true from (suc n) all last =
      let parts = split (p from) (list_all p (rising (from + 1) n)) all in
      and_true (p from) (list_all p (rising (from + 1) (suc n))) parts.0 (last_true (from + 1) n parts.1 (ap p (omega arith) ∙ last))
    where
      split : (a b : Bool) → (a && b) ≡ true → (a ≡ true) × (b ≡ true)
      split true b is = (refl, is)
      split false b is = absurd cc

  one_false : (d from n : ℕ) → from ≤ d → d < from + n → p d ≡ false → list_all p (rising from n) ≡ false
  one_false d from zero low high off = absurd (omega (arith, low, high))
  one_false d from (suc n) low high off = go (p from) refl (one_false d (from + 1) n)
    where
      go : (b : Bool) → p from ≡ b → (from + 1 ≤ d → d < from + 1 + n → p d ≡ false → list_all p (rising (from + 1) n) ≡ false) → (p from && list_all p (rising (from + 1) n)) ≡ false
      go false is later = ap (λ b. b && list_all p (rising (from + 1) n)) is
      go true is later = and_false (p from) (list_all p (rising (from + 1) n)) (later (above p d from low is off) (omega (arith, high)) off)

pub marked_one : (left : List Bool) (n d : ℕ) → d ≡ n + 1 → have_left n left ≡ true → slice_index_or left d false ≡ true → have_left d left ≡ true
marked_one left n d is all last =
    let long : d ≡ suc n = omega (arith, is) in
    let place : 1 + n ≡ d = omega (arith, is) in
    ap (λ k. have_left k left) long ∙ last_true (λ k. slice_index_or left k false) 1 n all (ap (λ k. slice_index_or left k false) place ∙ last)

pub marked_not : (left : List Bool) (d n : ℕ) → 1 ≤ d → d ≤ n → slice_index_or left d false ≡ false → have_left n left ≡ false
marked_not left d n some le off = one_false (λ k. slice_index_or left k false) d 1 n some (omega (arith, le)) off
