use Rattle.std.proofs.Common.{◌≡◌, ◌⊎◌, ◌∙◌, sym, refl, subst, inl, inr, ⊎_elim, ℕ, zero, suc, ◌≤◌, ◌^◌, Bool, true, false, eqb, eqb-true, true≢false, List, [], ◌∷◌, arith}
use mathlib.Core.Bool.{◌||◌}
use Rattle.shared_words.specs.Shape.{IsRingSize}
use Rattle.shared_words.proofs.making.is_ring_size.Goals as goal

either_true : (a b : Bool) → (a || b) ≡ true → (a ≡ true) ⊎ (b ≡ true)
either_true true b e = inl refl
either_true false b e = inr e

-- one of these is the number
abbrev is_one : List ℕ → ℕ → Bool
is_one [] z = false
is_one (n ∷ ns) z = eqb n z || is_one ns z

abbrev AreSizes : List ℕ → Type 0
AreSizes [] = Unit {0}
AreSizes (n ∷ ns) = IsRingSize n × AreSizes ns

one_size : (ns : List ℕ) (z : ℕ) → AreSizes ns → is_one ns z ≡ true → IsRingSize z
one_size [] z all t = absurd (true≢false (sym t))
one_size (n ∷ ns) z all t = ⊎_elim (λ (e : eqb n z ≡ true). subst IsRingSize (eqb-true n z e) all.0) (λ (more : is_one ns z ≡ true). one_size ns z all.1 more) (either_true (eqb n z) (is_one ns z) t)

abbrev sizes : List ℕ
sizes = 2 ∷ 4 ∷ 8 ∷ 16 ∷ 32 ∷ 64 ∷ 128 ∷ 256 ∷ 512 ∷ 1024 ∷ 2048 ∷ 4096 ∷ 8192 ∷ 16384 ∷ 32768 ∷ []

power : (k : ℕ) → 1 ≤ k → k ≤ 15 → IsRingSize (2 ^ k)
power k low high = (k, low, high, refl)

all_sizes : AreSizes sizes
all_sizes = (power 1 (omega arith) (omega arith), (power 2 (omega arith) (omega arith), (power 3 (omega arith) (omega arith), (power 4 (omega arith) (omega arith), (power 5 (omega arith) (omega arith), (power 6 (omega arith) (omega arith), (power 7 (omega arith) (omega arith), (power 8 (omega arith) (omega arith), (power 9 (omega arith) (omega arith), (power 10 (omega arith) (omega arith), (power 11 (omega arith) (omega arith), (power 12 (omega arith) (omega arith), (power 13 (omega arith) (omega arith), (power 14 (omega arith) (omega arith), (power 15 (omega arith) (omega arith), tt)))))))))))))))

power_is : (k : ℕ) → 1 ≤ k → k ≤ 15 → is_one sizes (2 ^ k) ≡ true
power_is zero a b = absurd (omega arith)
power_is (suc zero) a b = refl
power_is (suc (suc zero)) a b = refl
power_is (suc (suc (suc zero))) a b = refl
power_is (suc (suc (suc (suc zero)))) a b = refl
power_is (suc (suc (suc (suc (suc zero))))) a b = refl
power_is (suc (suc (suc (suc (suc (suc zero)))))) a b = refl
power_is (suc (suc (suc (suc (suc (suc (suc zero))))))) a b = refl
power_is (suc (suc (suc (suc (suc (suc (suc (suc zero)))))))) a b = refl
power_is (suc (suc (suc (suc (suc (suc (suc (suc (suc zero))))))))) a b = refl
power_is (suc (suc (suc (suc (suc (suc (suc (suc (suc (suc zero)))))))))) a b = refl
power_is (suc (suc (suc (suc (suc (suc (suc (suc (suc (suc (suc zero))))))))))) a b = refl
power_is (suc (suc (suc (suc (suc (suc (suc (suc (suc (suc (suc (suc zero)))))))))))) a b = refl
power_is (suc (suc (suc (suc (suc (suc (suc (suc (suc (suc (suc (suc (suc zero))))))))))))) a b = refl
power_is (suc (suc (suc (suc (suc (suc (suc (suc (suc (suc (suc (suc (suc (suc zero)))))))))))))) a b = refl
power_is (suc (suc (suc (suc (suc (suc (suc (suc (suc (suc (suc (suc (suc (suc (suc zero))))))))))))))) a b = refl
power_is (suc (suc (suc (suc (suc (suc (suc (suc (suc (suc (suc (suc (suc (suc (suc (suc k)))))))))))))))) a b = absurd (omega arith)

pub returns : goal.returns
returns c = let v = c.contains.ensures.value in let z = c.args.size in (
  λ t. one_size sizes z all_sizes (sym v ∙ t),
  λ s. v ∙ subst (λ (y : ℕ). is_one sizes y ≡ true) (sym s.3) (power_is s.0 s.1 s.2),
)
