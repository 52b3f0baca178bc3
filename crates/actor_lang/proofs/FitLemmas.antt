-- What numbers and lines that are told have.
use Rattle.std.proofs.Common.{◌≡◌, ℕ, ◌+◌, ◌≤◌, length, Bool, true, false, ◌&&◌, List, [], ◌∷◌, Option, Some, None, refl, subst, arith, inl, inr}
use Rattle.std.specs.Prelude.{nat_le, unwrap_or, Result, Ok, Err}
use Rattle.std.specs.List.{AllByRecursion}
use Rattle.std.proofs.lemmas.Bool.{cases_Bool, and_parts, leb-true}
use Rattle.std.proofs.lemmas.Bool.Decides.{nat_tests}
use Rattle.board_model.specs.FileWords.{Numeral, is_admitted, is_number, number_of, number}
use Rattle.board_model.specs.LineReasons.{is_link_size}
use Rattle.actor_lang.specs.declared.fault.InputReason.{InputReason}
use Rattle.actor_lang.specs.InputNumbers.{number_in, ring_size}
use Rattle.actor_lang.specs.InputFaults.{RefusedInput, at_line, onto_told, told_from, is_past}

-- ---- numbers

admitted : (admits : ℕ → Bool) (o : Option ℕ) → is_admitted admits o ≡ true → admits (unwrap_or o 0) ≡ true
admitted admits None is = absurd cc
admitted admits (Some n) is = is

pub size_fits : (least : ℕ) (word : List ℕ) → is_number (ring_size least word) ≡ true → (least ≤ number word) × (is_link_size (number word) ≡ true)
size_fits least word is =
    let parts = and_parts (nat_le least (number word)) (is_link_size (number word)) (admitted (λ size. nat_le least size && is_link_size size) (number_of word) is) in
    (leb-true least (number word) parts.0, parts.1)

-- a number that is read is admitted
pub number_is : (m : Numeral) (n : ℕ) → number_in m ≡ Some n → (is_number m ≡ true) × (number m.word ≡ n)
number_is m n is = elim (cases_Bool (is_number m)) [
  | inl holds ↦ let e : Some (number m.word) ≡ Some n = rw holds at is in (holds, cc)
  | inr fails ↦ let e : None ≡ Some n = rw fails at is in absurd cc
]

-- ---- lines

-- a line that isn't past the most
pub near : (n : ℕ) → is_past n ≡ false → n ≤ 100001
near n first = grind (arith, nat_tests)

abbrev pub AreFit : {A : Type 0} → (A → Type 0) → ℕ → List A → Type 0
AreFit P n xs = AllByRecursion P xs × (length xs + n ≤ 100002)

one_fits : {A : Type 0} (P : A → Type 0) (n : ℕ) (first : Result A InputReason) (rest : Result (List A) RefusedInput) (xs : List A) → ((x : A) → first ≡ Ok x → P x × (n ≤ 100001)) → ((ys : List A) → n + 1 ≤ 100002 → rest ≡ Ok ys → AreFit P (n + 1) ys) → onto_told (at_line n first) rest ≡ Ok xs → AreFit P n xs
one_fits P n (Err r) rest xs one more is = absurd cc
one_fits P n (Ok x) (Err r) xs one more is = absurd cc
one_fits P n (Ok x) (Ok ys) xs one more is =
    let first = one x refl in
    let others = more ys (omega (arith, first.1)) refl in
    let same : x ∷ ys ≡ xs = cc in
    subst (AreFit P n) same ((first.0, others.0), omega (arith, others.1))

-- each line that is read fits, and they are few
pub lines_fit : {A : Type 0} (P : A → Type 0) (read : ℕ → List ℕ → Result A InputReason) (n : ℕ) (lines : List (List ℕ)) (xs : List A) → ((m : ℕ) (line : List ℕ) (x : A) → read m line ≡ Ok x → P x × (m ≤ 100001)) → n ≤ 100002 → told_from read n lines ≡ Ok xs → AreFit P n xs
lines_fit {A = A} P read n [] xs one few is =
    let none : List A = [] in
    let same : none ≡ xs = cc in
    subst (AreFit P n) same (tt, omega (arith, few))
lines_fit P read n (line ∷ lines) xs one few is =
    one_fits P n (read n line) (told_from read (n + 1) lines) xs (λ x e. one n line x e) (λ ys next e. lines_fit P read (n + 1) lines ys one next e) is
