-- The hexadecimal digits of joined bytes.
use Rattle.std.proofs.Common.{◌≡◌, ℕ, ◌+◌, ◌/◌, ◌%◌, List, [], ◌∷◌, ◌++◌, take, drop, refl, ap}
use Rattle.std.proofs.Math.Seq.{take-add}
use Rattle.mc_base.specs.Text.{hex_digit, hex_digits}

pub hex_digits-append : (xs ys : List ℕ) → hex_digits (xs ++ ys) ≡ hex_digits xs ++ hex_digits ys
hex_digits-append [] ys = refl
hex_digits-append (x ∷ xs) ys = ap (λ (t : List ℕ). hex_digit (x / 16) ∷ hex_digit (x % 16) ∷ t) (hex_digits-append xs ys)

-- the digits of the bytes before `done`, and of the n after it
pub hex_digits-more : (bytes : List ℕ) (done n : ℕ) → hex_digits (take (done + n) bytes) ≡ hex_digits (take done bytes) ++ hex_digits (take n (drop done bytes))
hex_digits-more bytes done n = rw take-add (hex_digits-append (take done bytes) (take n (drop done bytes)))
