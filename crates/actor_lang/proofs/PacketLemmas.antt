-- The line of a packet, as it is read and as it is told.
use Rattle.std.proofs.Common.{◌≡◌, ℕ, suc, ◌+◌, ◌/◌, ◌%◌, ◌≤◌, length, false, List, [], ◌∷◌, Option, Some, None, refl, sym, ap, ◌∙◌, arith}
use Rattle.std.specs.Prelude.{Result, Err, if◌then◌else◌}
use Rattle.std.proofs.lemmas.Bool.Decides.{nat_tests}
use Rattle.board_model.specs.FileWords.{digit_value, byte_and, pairs_of, is_dash}
use Rattle.board_model.proofs.WordDigits.{odd_pairs}
use Rattle.board_model.specs.LineReasons.{is_empty}
use Rattle.actor_lang.specs.declared.fault.InputReason.{InputReason}
use Rattle.actor_lang.specs.declared.fault.InputReason.TheVariants.{Bytes}
use Rattle.actor_lang.specs.InputFaults.{refused, at_line, is_past}
use Rattle.actor_lang.specs.RelayInput.{fits_ring, fitting, packet_in, packet_line}

not_past : (n : ℕ) → n ≤ 100001 → is_past n ≡ false
not_past n few = grind (arith, nat_tests)

-- two digits a byte
halved : (w bs : List ℕ) → pairs_of w ≡ Some bs → length w / 2 ≡ length bs
halved w bs is = let twice = doubled w bs is in omega (arith, twice)
  where
    one : (h l : Option ℕ) (ds : List ℕ) (rest : Option (List ℕ)) (bs : List ℕ) → ((cs : List ℕ) → rest ≡ Some cs → length ds ≡ length cs + length cs) → byte_and h l rest ≡ Some bs → suc (suc (length ds)) ≡ length bs + length bs
    one None l ds rest bs more is = absurd cc
    one (Some h) None ds rest bs more is = absurd cc
    one (Some h) (Some l) ds None bs more is = absurd cc
    one (Some h) (Some l) ds (Some cs) [] more is = absurd cc
    one (Some h) (Some l) ds (Some cs) (x ∷ xs) more is =
        let same : cs ≡ xs = cc in
        let long = more cs refl in
        let size : length cs ≡ length xs = ap (λ (t : List ℕ). length t) same in
        omega (arith, long, size)

    doubled : (w bs : List ℕ) → pairs_of w ≡ Some bs → length w ≡ length bs + length bs
    doubled [] [] is = omega arith
    doubled [] (b ∷ bs) is = absurd cc
    doubled (a ∷ []) bs is = absurd cc
    doubled (a ∷ b ∷ ds) bs is = one (digit_value a) (digit_value b) ds (pairs_of ds) bs (λ cs e. doubled ds cs e) is

unfit_in : (size : ℕ) (line : List ℕ) (o : Option (List ℕ)) → ((bs : List ℕ) → o ≡ Some bs → length line / 2 ≡ length bs) → fits_ring size (length line / 2) ≡ false → fitting size o ≡ Err Bytes
unfit_in size line None long unfit = refl
unfit_in size line (Some bs) long unfit =
    let is : fits_ring size (length bs) ≡ false = ap (fits_ring size) (sym (long bs refl)) ∙ unfit in
    rw is refl

or_bytes : (line : List ℕ) (r : Result (List ℕ) InputReason) → r ≡ Err Bytes → (if is_empty line then Err Bytes else r) ≡ Err Bytes
or_bytes [] r is = refl
or_bytes (b ∷ bs) r is = is

-- too long, or too many frames
pub line_unfit : (size n : ℕ) (line : List ℕ) → n ≤ 100001 → is_dash line ≡ false → fits_ring size (length line / 2) ≡ false → at_line n (packet_line size n line) ≡ Err (refused n Bytes)
line_unfit size n line few dash unfit =
    let is : fitting size (pairs_of line) ≡ Err Bytes = unfit_in size line (pairs_of line) (halved line) unfit in
    let none : packet_in size line ≡ Err Bytes = rw dash (or_bytes line (fitting size (pairs_of line)) is) in
    rw (not_past n few, none) refl

-- other bytes than pairs of digits
pub line_no_pairs : (size n : ℕ) (line : List ℕ) → n ≤ 100001 → is_dash line ≡ false → pairs_of line ≡ None → at_line n (packet_line size n line) ≡ Err (refused n Bytes)
line_no_pairs size n line few dash no_pairs =
    let is : fitting size (pairs_of line) ≡ Err Bytes = rw no_pairs refl in
    let none : packet_in size line ≡ Err Bytes = rw dash (or_bytes line (fitting size (pairs_of line)) is) in
    rw (not_past n few, none) refl

pub line_odd : (size n : ℕ) (line : List ℕ) → n ≤ 100001 → is_dash line ≡ false → length line % 2 ≡ 1 → at_line n (packet_line size n line) ≡ Err (refused n Bytes)
line_odd size n line few dash odd = line_no_pairs size n line few dash (odd_pairs line odd)

-- less than a pair
pub line_short : (size n : ℕ) (line : List ℕ) → n ≤ 100001 → is_dash line ≡ false → length line / 2 ≡ 0 → at_line n (packet_line size n line) ≡ Err (refused n Bytes)
line_short size n [] few dash short = rw (not_past n few) refl
line_short size n (b ∷ []) few dash short = line_no_pairs size n (b ∷ []) few dash refl
line_short size n (b ∷ c ∷ cs) few dash short = absurd (omega (arith, short))
