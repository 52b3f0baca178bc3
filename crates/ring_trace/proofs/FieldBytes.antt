-- The lowest bytes of a number.
use Rattle.std.proofs.Common.{◌≡◌, ◌≤◌, ℕ, zero, suc, ◌∷◌, take, refl, ap, arith}
use Rattle.std.specs.Int.{byte_at, bytes_low_first}
use Rattle.byteorder.specs.Endian.{little_bytes}

take-lowest : (i w n x : ℕ) → w ≤ n → take w (bytes_low_first i n x) ≡ bytes_low_first i w x
take-lowest i zero n x h = refl
take-lowest i (suc w) zero x h = absurd (omega (arith, h))
take-lowest i (suc w) (suc n) x h = ap (λ l. byte_at i x ∷ l) (take-lowest (suc i) w n x (omega (arith, h)))

pub lowest_bytes : (w x : ℕ) → w ≤ 8 → take w (little_bytes 8 x) ≡ little_bytes w x
lowest_bytes w x h = take-lowest 0 w 8 x h
