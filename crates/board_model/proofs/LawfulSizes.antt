-- The sizes that a link may have: the powers of two from 2 to 256.
use Rattle.std.proofs.Common.{◌≡◌, ℕ, ◌≤◌, ◌^◌, Bool, true, false, ◌||◌, List, [], ◌∷◌, refl, sym, subst, arith, eqb-true}
use Rattle.std.specs.Prelude.{◌==◌}
use Rattle.std.specs.List.{AllByRecursion, list_any}
use Rattle.board_model.specs.LineReasons.{is_link_size}

one_of : (P : ℕ → Type 0) (size : ℕ) (ns : List ℕ) → AllByRecursion P ns → list_any (λ n. size == n) ns ≡ true → P size
one_of P size [] all e = absurd cc
one_of P size (n ∷ ns) all e = go (size == n) refl e (λ any. one_of P size ns all.1 any)
  where
    go : (b : Bool) → (size == n) ≡ b → (b || list_any (λ m. size == m) ns) ≡ true → (list_any (λ m. size == m) ns ≡ true → P size) → P size
    go true is any rest = subst P (sym (eqb-true size n is)) all.0
    go false is any rest = rest any

-- a power of two from 2 to 256
abbrev pub IsPowerOfTwo : ℕ → Type 0
IsPowerOfTwo size = (k : ℕ) × (1 ≤ k) × (k ≤ 8) × (size ≡ 2 ^ k)

pub size-power : (size : ℕ) → is_link_size size ≡ true → IsPowerOfTwo size
size-power size e =
    one_of IsPowerOfTwo size (2 ∷ 4 ∷ 8 ∷ 16 ∷ 32 ∷ 64 ∷ 128 ∷ 256 ∷ [])
    ((1, omega arith, omega arith, refl), ((2, omega arith, omega arith, refl), ((3, omega arith, omega arith, refl), ((4, omega arith, omega arith, refl), ((5, omega arith, omega arith, refl), ((6, omega arith, omega arith, refl), ((7, omega arith, omega arith, refl), ((8, omega arith, omega arith, refl), tt)))))))) e

pub size-fits : (size : ℕ) → is_link_size size ≡ true → (1 ≤ size) × (size ≤ 256)
size-fits size e =
    one_of (λ n. (1 ≤ n) × (n ≤ 256)) size (2 ∷ 4 ∷ 8 ∷ 16 ∷ 32 ∷ 64 ∷ 128 ∷ 256 ∷ [])
    ((omega arith, omega arith), ((omega arith, omega arith), ((omega arith, omega arith), ((omega arith, omega arith), ((omega arith, omega arith), ((omega arith, omega arith), ((omega arith, omega arith), ((omega arith, omega arith), tt)))))))) e
