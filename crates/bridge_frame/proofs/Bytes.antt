-- The bytes that a number was read from are its bytes.
use Rattle.std.proofs.Common.{◌≡◌, ◌<◌, ◌≤◌, ◌+◌, ◌*◌, ◌/◌, ◌%◌, ◌^◌, ◌∙◌, ℕ, zero, suc, List, [], ◌∷◌, length, take, slice_index, refl, sym, ap, arith}
use Rattle.std.proofs.Math.Nat.{div-div-eq-div-mul, pow-succ'}
use Rattle.std.specs.Int.{byte_at, bytes_low_first}
use Rattle.byteorder.specs.Endian.{little_bytes, little_from, little_number}
use Rattle.byteorder.specs.Numbers.{little_from-cons}

abbrev pub IsBytes : List ℕ → Type 0
IsBytes bytes = (i : ℕ) → slice_index bytes i < 256

-- above the lowest byte of a number are the bytes of the rest
byte_at-above : (j a y : ℕ) → a < 256 → byte_at (suc j) (a + 256 * y) ≡ byte_at j y
byte_at-above zero a y h = omega arith
byte_at-above (suc j) a y h =
    let rest : (a + 256 * y) / 256 ≡ y = omega arith in
    let split : (a + 256 * y) / 256 ^ suc (suc j) ≡ y / 256 ^ suc j =
    ap (λ (p : ℕ). (a + 256 * y) / p) (pow-succ' 256 (suc j)) ∙ sym (div-div-eq-div-mul (a + 256 * y) 256 (256 ^ suc j)) ∙ ap (λ (n : ℕ). n / 256 ^ suc j) rest in
    ap (λ (n : ℕ). n % 256) split

bytes_above : (k j a y : ℕ) → a < 256 → bytes_low_first (suc j) k (a + 256 * y) ≡ bytes_low_first j k y
bytes_above zero j a y h = refl
bytes_above (suc k) j a y h =
    let first = byte_at-above j a y h in
    let rest = bytes_above k (suc j) a y h in
    cc

pub little_bytes-little_number : (n : ℕ) (bytes : List ℕ) → n ≤ length bytes → IsBytes bytes → little_bytes n (little_number n bytes) ≡ take n bytes
little_bytes-little_number zero bytes long fits = refl
little_bytes-little_number (suc n) [] long fits = absurd (omega arith)
little_bytes-little_number (suc n) (b ∷ bytes) long fits =
    let byte : b < 256 = fits 0 in
    let moved : little_from 1 n (b ∷ bytes) ≡ little_number n bytes = little_from-cons 0 n b bytes in
    let first : (b + 256 * little_number n bytes) % 256 ≡ b = omega arith in
    let rest = bytes_above n 0 b (little_number n bytes) byte ∙ little_bytes-little_number n bytes (omega arith) (λ i. fits (suc i)) in
    rw moved cc
