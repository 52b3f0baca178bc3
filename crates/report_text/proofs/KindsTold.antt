-- Two answers with one text are of one kind, but for `ok 1 66`; and that is read as what a receive gives.
use Rattle.std.proofs.Common.{◌≡◌, ℕ, zero, suc, ◌+◌, ◌*◌, ◌/◌, ◌%◌, ◌^◌, ◌<◌, ◌≤◌, Bool, true, false, not, ◌&&◌, cond, List, [], ◌∷◌, ◌++◌, length, Option, Some, None, refl, sym, ap, ap₂, ◌∙◌, arith}
use Rattle.std.specs.Prelude.{decimal, codes, drop, nat_lt, nat_le, option_map, option_to_list, map, ◌==◌}
use Rattle.std.specs.Fmt.{digits, digits_onto, digit_glyph}
use Rattle.std.specs.List.{AllByRecursion, list_all, flat_map}
use Rattle.std.proofs.lemmas.Bool.{and_from, and_parts}
use Rattle.std.proofs.lemmas.Bool.Decides.{nat_tests}
use Rattle.std.proofs.Math.Nat.{one-le-pow, pow-suc}
use Rattle.std.proofs.lemmas.Fmt.{decimal_is_IsNumeral_wide, length-decimal-le, length-decimal-le_succ}
use Rattle.std.specs.Str.Parse.{digits_value}
use Rattle.mc_base.specs.Text.{hex_digit, hex_byte, hex_text}
use Rattle.mc_base.specs.declared.refusal.Refusal.{Refusal}
use Rattle.mc_base.specs.declared.refusal.Refusal.TheVariants as refusal
use Rattle.board_model.specs.Numerals.{is_other}
use Rattle.board_model.specs.FileWords.{is_digit}
use Rattle.board_model.specs.Grammar.{spaced}
use Rattle.board_model.specs.Words.{refusal_text}
use Rattle.board_model.specs.Journal.{PlainAnswer, refuses, agrees, tells, connects, gives, completes}
use Rattle.board_model.specs.Report.{answer_words, result_words}
use Rattle.board_model.specs.Tallies.{number_told}
use Rattle.board_model.proofs.WordDecimals.{decimal-digits}
use Rattle.mc_journal.specs.EntryText.{AreBytes, FitsAnswer}
use Rattle.mc_journal.specs.Readers.{cut_at, or_else, both, only, give, sized, is_whole, count_in, long_in, whole_in, ok_by, ok_in, answer_in}
use Rattle.mc_journal.proofs.BytesRead.{bytes-read}
use Rattle.mc_journal.proofs.Cuts.{cut-found}
use Rattle.mc_journal.proofs.ResultsRead.{count-read}
use Rattle.report_text.proofs.TurnsDue.{cons-parts}

-- ---- decimals have no blank, nor any other byte below their digits

module _ (stop : ℕ) (low : stop < 48) where
  glyph-other : (d : ℕ) → is_other stop (digit_glyph false d) ≡ true
  glyph-other d = go (nat_lt d 10)
    where
      go : (a : Bool) → is_other stop (cond a (48 + d) (87 + d)) ≡ true
      go true = let differs : (48 + d == stop) ≡ false = grind (arith, nat_tests) in ap not differs
      go false = let differs : (87 + d == stop) ≡ false = grind (arith, nat_tests) in ap not differs

  onto-other : (k n : ℕ) (acc : List ℕ) → list_all (is_other stop) acc ≡ true → list_all (is_other stop) (digits_onto k 10 false n acc) ≡ true
  onto-other zero n acc all = all
  onto-other (suc k) n acc all = go (n / 10 == 0) (onto-other k (n / 10) (digit_glyph false (n % 10) ∷ acc) more)
    where
      more : list_all (is_other stop) (digit_glyph false (n % 10) ∷ acc) ≡ true
      more = and_from (is_other stop (digit_glyph false (n % 10))) (list_all (is_other stop) acc) (glyph-other (n % 10)) all

      go : (b : Bool) → list_all (is_other stop) (digits_onto k 10 false (n / 10) (digit_glyph false (n % 10) ∷ acc)) ≡ true → list_all (is_other stop) (cond b (digit_glyph false (n % 10) ∷ acc) (digits_onto k 10 false (n / 10) (digit_glyph false (n % 10) ∷ acc))) ≡ true
      go true rest = more
      go false rest = rest

  pub decimal-other : (n : ℕ) → list_all (is_other stop) (decimal n) ≡ true
  unfolding digits
  decimal-other n = onto-other 64 n [] refl

pub decimal-alone : (n : ℕ) → list_all (is_other 32) (decimal n) ≡ true
decimal-alone = decimal-other 32 (omega arith)

blank-within : (xs ys : List ℕ) → list_all (is_other 32) (xs ++ 32 ∷ ys) ≡ false
blank-within [] ys = refl
blank-within (x ∷ xs) ys = go (is_other 32 x) (blank-within xs ys)
  where
    go : (b : Bool) → list_all (is_other 32) (xs ++ 32 ∷ ys) ≡ false → (b && list_all (is_other 32) (xs ++ 32 ∷ ys)) ≡ false
    go true rest = rest
    go false rest = refl

-- ---- the kind of an answer, by its text

abbrev starts_with : List ℕ → List ℕ → Bool
starts_with [] text = true
starts_with (b ∷ bs) [] = false
starts_with (b ∷ bs) (c ∷ cs) = (b == c) && starts_with bs cs

abbrev after_ok : List ℕ → ℕ
after_ok [] = 1
after_ok (b ∷ bs) = cond (list_all (is_other 32) bs) 2 3

kind_in : List ℕ → ℕ
kind_in text = cond (starts_with (codes "ok") text) (after_ok (drop 2 text)) (cond (starts_with (codes "tr") text) 3 (cond (starts_with (codes "do") text) 4 0))

abbrev pub kind_of : PlainAnswer → ℕ
kind_of (refuses word) = 0
kind_of agrees = 1
kind_of (tells n) = 2
kind_of (connects request channel) = 3
kind_of (gives size bytes) = 3
kind_of (completes place result) = 4

refusal-kind : (w : Refusal) → kind_in (refusal_text w) ≡ 0
unfolding kind_in
refusal-kind refusal.NodeInvalid = refl
refusal-kind refusal.ExistsAlready = refl
refusal-kind refusal.EndpLimit = refl
refusal-kind refusal.AddressSpent = refl
refusal-kind refusal.EndpInvalid = refl
refusal-kind refusal.PeerInvalid = refl
refusal-kind refusal.OnChannel = refl
refusal-kind refusal.ChanConnected = refl
refusal-kind refusal.EndpBusy = refl
refusal-kind refusal.ChanLimit = refl
refusal-kind refusal.RequestLimit = refl
refusal-kind refusal.NotConnected = refl
refusal-kind refusal.ChanDirection = refl
refusal-kind refusal.ChanType = refl
refusal-kind refusal.ChanClosed = refl
refusal-kind refusal.AlreadyOpen = refl
refusal-kind refusal.NotOpen = refl
refusal-kind refusal.MsgSize = refl
refusal-kind refusal.PktSize = refl
refusal-kind refusal.NoBuffer = refl
refusal-kind refusal.Empty = refl
refusal-kind refusal.SclSize = refl
refusal-kind refusal.BufInvalid = refl
refusal-kind refusal.RequestInvalid = refl
refusal-kind refusal.Pending = refl
refusal-kind refusal.TooLate = refl
refusal-kind refusal.Timeout = refl
refusal-kind refusal.LinkInvalid = refl
refusal-kind refusal.RawSound = refl

done-kind : (ws : List (List ℕ)) → kind_in (spaced (codes "done" ∷ ws)) ≡ 4
unfolding kind_in
done-kind [] = refl
done-kind (w ∷ ws) = refl

two-kind : (xs ys : List ℕ) → kind_in (codes "ok " ++ (xs ++ 32 ∷ ys)) ≡ 3
unfolding kind_in
two-kind xs ys = ap (λ b. cond b 2 3) (blank-within xs ys)

answer-kind : (a : PlainAnswer) → kind_in (spaced (answer_words a)) ≡ kind_of a
unfolding kind_in
answer-kind (refuses word) = refusal-kind word
answer-kind agrees = refl
answer-kind (tells n) = ap (λ b. cond b 2 3) (decimal-alone n)
answer-kind (connects request channel) = two-kind (decimal request) (decimal channel)
answer-kind (gives size bytes) = go (nat_lt (length bytes) size)
  where
    go : (t : Bool) → kind_in (spaced (cond t (codes "truncated") (codes "ok") ∷ decimal size ∷ hex_text bytes ∷ [])) ≡ 3
    go true = refl
    go false = two-kind (decimal size) (hex_text bytes)
answer-kind (completes place result) = done-kind (map decimal (option_to_list place) ++ result_words result)

pub same-kind : (a b : PlainAnswer) → spaced (answer_words a) ≡ spaced (answer_words b) → kind_of a ≡ kind_of b
same-kind a b e = sym (answer-kind a) ∙ ap kind_in e ∙ answer-kind b

-- ---- the number that an answer tells, by its text

behind-ok : (xs ys : List ℕ) → codes "ok " ++ xs ≡ codes "ok " ++ ys → xs ≡ ys
behind-ok xs ys e = ap (drop 3) e

onto-length : (k n : ℕ) (acc : List ℕ) → 10 ^ k ≤ n → length (digits_onto k 10 false n acc) ≡ k + length acc
onto-length zero n acc high = omega arith
onto-length (suc k) n acc high =
    let power : 10 ^ suc k ≡ 10 ^ k * 10 = pow-suc 10 k in
    let some = one-le-pow k 10 (omega arith) in
    let more : 10 ^ k ≤ n / 10 = omega (arith, high, power) in
    let left : (n / 10 == 0) ≡ false = grind (arith, nat_tests, some, more) in
    let rest = onto-length k (n / 10) (digit_glyph false (n % 10) ∷ acc) more in
    ap (λ b. length (cond b (digit_glyph false (n % 10) ∷ acc) (digits_onto k 10 false (n / 10) (digit_glyph false (n % 10) ∷ acc)))) left
    ∙ omega (arith, rest)

-- a number of 64 bits has its decimal alone
decimal-same : (m n : ℕ) → n < 2 ^ 64 → decimal m ≡ decimal n → m ≡ n
unfolding digits
decimal-same m n small e = go (nat_lt m (10 ^ 64)) refl
  where
    few : length (decimal n) ≤ 20
    few = length-decimal-le 20 n (omega arith) (omega (arith, small)) small

    go : (b : Bool) → nat_lt m (10 ^ 64) ≡ b → m ≡ n
    go true is =
        let low : m < 10 ^ 64 = grind (arith, nat_tests) in
        sym (decimal_is_IsNumeral_wide m low).1 ∙ ap (digits_value 10) e ∙ (decimal_is_IsNumeral_wide n (omega (arith, small))).1
    go false is =
        let high : 10 ^ 64 ≤ m = grind (arith, nat_tests) in
        let long : length (decimal m) ≡ 64 + 0 = onto-length 64 m [] high in
        absurd (omega (arith, long, few, ap (λ xs. length xs) e))

other-number : (a : PlainAnswer) → (kind_of a == 2) ≡ false → number_told a ≡ 0
other-number (refuses word) e = refl
other-number agrees e = refl
other-number (tells n) e = absurd (grind (arith, nat_tests))
other-number (connects request channel) e = refl
other-number (gives size bytes) e = refl
other-number (completes place result) e = refl

pub number-same : (a b : PlainAnswer) → FitsAnswer b → spaced (answer_words a) ≡ spaced (answer_words b) → number_told a ≡ number_told b
number-same a (tells n) fits e = go a (same-kind a (tells n) e) e
  where
    go : (a : PlainAnswer) → kind_of a ≡ 2 → spaced (answer_words a) ≡ spaced (answer_words (tells n)) → number_told a ≡ n
    go (tells m) kind e = decimal-same m n fits (behind-ok (decimal m) (decimal n) e)
    go (refuses word) kind e = absurd (omega (arith, kind))
    go agrees kind e = absurd (omega (arith, kind))
    go (connects request channel) kind e = absurd (omega (arith, kind))
    go (gives size bytes) kind e = absurd (omega (arith, kind))
    go (completes place result) kind e = absurd (omega (arith, kind))
number-same a (refuses word) fits e = other-number a (ap (λ n. n == 2) (same-kind a (refuses word) e))
number-same a agrees fits e = other-number a (ap (λ n. n == 2) (same-kind a agrees e))
number-same a (connects request channel) fits e = other-number a (ap (λ n. n == 2) (same-kind a (connects request channel) e))
number-same a (gives size bytes) fits e = other-number a (ap (λ n. n == 2) (same-kind a (gives size bytes) e))
number-same a (completes place result) fits e = other-number a (ap (λ n. n == 2) (same-kind a (completes place result) e))

-- ---- what a receive gives is read so

digit-value : (d : ℕ) → is_digit (hex_digit d) ≡ true → d < 10
digit-value d e = go (nat_lt d 10) refl e
  where
    go : (b : Bool) → nat_lt d 10 ≡ b → is_digit (cond b (48 + d) (87 + d)) ≡ true → d < 10
    go true is e = grind (arith, nat_tests)
    go false is e = let parts = and_parts (nat_le 48 (87 + d)) (nat_le (87 + d) 57) e in let high = parts.1 in let le : 87 + d ≤ 57 = grind (arith, nat_tests) in absurd (omega (arith, le))

digits-bytes : (bs : List ℕ) → list_all is_digit (flat_map hex_byte bs) ≡ true → AllByRecursion (λ b. b < 256) bs
digits-bytes [] e = tt
digits-bytes (b ∷ bs) e =
    let one = and_parts (is_digit (hex_digit (b / 16))) (list_all is_digit (hex_digit (b % 16) ∷ flat_map hex_byte bs)) e in
    let two = and_parts (is_digit (hex_digit (b % 16))) (list_all is_digit (flat_map hex_byte bs)) one.1 in
    let high = digit-value (b / 16) one.0 in
    (omega (arith, high), digits-bytes bs two.1)

hex-length : (bs : List ℕ) → length (flat_map hex_byte bs) ≡ 2 * length bs
hex-length [] = refl
hex-length (b ∷ bs) = let rest = hex-length bs in omega (arith, rest)

text-bytes : (bs : List ℕ) (n : ℕ) → n < 2 ^ 32 → hex_text bs ≡ decimal n → AreBytes bs × (length bs < 2 ^ 32)
text-bytes [] n small e = (tt, omega arith)
text-bytes (b ∷ bs) n small e =
    let few = length-decimal-le_succ n (omega (arith, small)) in
    (digits-bytes (b ∷ bs) (ap (list_all is_digit) e ∙ decimal-digits n (omega (arith, small))), omega (arith, few, small, hex-length (b ∷ bs), ap (λ xs. length xs) e))

two-words : (u v x y : List ℕ) → list_all (is_other 32) u ≡ true → list_all (is_other 32) x ≡ true → u ++ 32 ∷ v ≡ x ++ 32 ∷ y → (u ≡ x) × (v ≡ y)
two-words u v x y a b e =
    let cut : Some (u, v) ≡ Some (x, y) = sym (cut-found 32 u v a) ∙ ap (cut_at 32) e ∙ cut-found 32 x y b in
    (ap (λ o. first o) cut, ap (λ o. second o) cut)
  where
    first : Option (List ℕ × List ℕ) → List ℕ
    first None = []
    first (Some z) = z.0

    second : Option (List ℕ × List ℕ) → List ℕ
    second None = []
    second (Some z) = z.1

-- so what is read as a connect's answer is no text of what a receive gives
pub gives-read : (size : ℕ) (bytes : List ℕ) (r c : ℕ) → FitsAnswer (connects r c) → answer_in (spaced (answer_words (gives size bytes))) ≡ Some (connects r c) → spaced (answer_words (connects r c)) ≡ spaced (answer_words (gives size bytes)) → ⊥
gives-read size bytes r c fits read same = go (nat_lt (length bytes) size) refl read same
  where
    go : (t : Bool) → nat_lt (length bytes) size ≡ t → answer_in (spaced (cond t (codes "truncated") (codes "ok") ∷ decimal size ∷ hex_text bytes ∷ [])) ≡ Some (connects r c) → codes "ok " ++ (decimal r ++ 32 ∷ decimal c) ≡ spaced (cond t (codes "truncated") (codes "ok") ∷ decimal size ∷ hex_text bytes ∷ []) → ⊥
    go true is read same = let no : 111 ≡ 116 = (cons-parts 111 116 _ _ same).0 in absurd (omega (arith, no))
    go false is read same =
        let words = two-words (decimal r) (decimal c) (decimal size) (hex_text bytes) (decimal-alone r) (decimal-alone size) (behind-ok (decimal r ++ 32 ∷ decimal c) (decimal size ++ 32 ∷ hex_text bytes) same) in
        let are = text-bytes bytes c fits.1 (sym words.1) in
        let some = are.1 in
        let few : size ≤ length bytes = grind (arith, nat_tests) in
        let whole : whole_in (decimal size) (hex_text bytes) ≡ Some (size, bytes) =
        ap₂ (λ o p. only is_whole (both sized o p)) (count-read size (omega (arith, few, some))) (bytes-read bytes are.0) ∙ ap (λ t. cond (not t) (Some (size, bytes)) None) is in
        let as_gives : ok_in (decimal size ++ 32 ∷ hex_text bytes) ≡ Some (gives size bytes) =
        ap (ok_by (decimal size ++ 32 ∷ hex_text bytes)) (cut-found 32 (decimal size) (hex_text bytes) (decimal-alone size)) ∙ ap (λ o. or_else (option_map give o) (both (λ (m n : ℕ). connects m n) (long_in (decimal size)) (count_in (hex_text bytes)))) whole in
        let no : Some (gives size bytes) ≡ Some (connects r c) = sym as_gives ∙ read in
        absurd cc
