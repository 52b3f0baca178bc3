-- Lists read item by item, and texts of numbers that rise.
use Rattle.std.proofs.Common.{◌≡◌, ℕ, zero, suc, ◌+◌, ◌<◌, Bool, true, false, List, [], ◌∷◌, ◌++◌, length, take, Option, Some, slice_get, refl, ap, ap₂, sym, ◌∙◌, arith, append-nil, append_assoc}
use Rattle.std.specs.Prelude.{IsSome, ◌||◌}
use Rattle.std.specs.List.{flat_map, list_any}
use Rattle.std.proofs.lemmas.Bool.{or_left, or_right}
use Rattle.std.proofs.lemmas.List.Folds.{list_any_more}
use Rattle.std.proofs.lemmas.Option.{get_or_from_slice_get, slice_get_within}
use Rattle.call_service.specs.Served.{rising}

-- ---- the item at a place

item_at : {A : Type 0} (xs : List A) (i : ℕ) → i < length xs → IsSome (slice_get xs i)
item_at [] i low = absurd (omega (arith, low))
item_at (x ∷ xs) zero low = refl
item_at (x ∷ xs) (suc i) low = item_at xs i (omega (arith, low))

pub some_at : {A : Type 0} (xs : List A) (i : ℕ) (o : Option A) → o ≡ slice_get xs i → i < length xs → IsSome o
some_at xs i o is low = rw is (item_at xs i low)

pub any_at : {A : Type 0} (p : A → Bool) (xs : List A) (i : ℕ) (x : A) → slice_get xs i ≡ Some x → p x ≡ true → list_any p xs ≡ true
any_at p [] i x at is = absurd cc
any_at p (y ∷ ys) zero x at is = let same : y ≡ x = cc in or_left (p y) (list_any p ys) (ap p same ∙ is)
any_at p (y ∷ ys) (suc i) x at is = or_right (p y) (list_any p ys) (any_at p ys i x at is)

pub none_more : {A : Type 0} (p : A → Bool) (xs : List A) (i : ℕ) (x : A) → slice_get xs i ≡ Some x → list_any p (take i xs) ≡ false → p x ≡ false → list_any p (take (i + 1) xs) ≡ false
none_more p xs i x at none is =
    list_any_more p xs i x (slice_get_within xs i x at)
    ∙ ap₂ (λ a b. a || b) none (ap p (get_or_from_slice_get xs i x x at) ∙ is)

-- ---- texts of numbers that rise, one number more

text_later : (text : ℕ → List ℕ) (from n : ℕ) → flat_map text (rising from (suc n)) ≡ flat_map text (rising from n) ++ text (from + n)
text_later text from zero = append-nil (text from) ∙ ap text (omega arith)
text_later text from (suc n) =
    ap (λ t. text from ++ t) (text_later text (from + 1) n)
    ∙ sym (append_assoc (text from) (flat_map text (rising (from + 1) n)) (text (from + 1 + n)))
    ∙ ap (λ m. flat_map text (rising from (suc n)) ++ text m) (omega arith)

-- `last` is the number
pub text_more : (text : ℕ → List ℕ) (from n last : ℕ) → last ≡ from + n → flat_map text (rising from (n + 1)) ≡ flat_map text (rising from n) ++ text last
text_more text from n last is =
    let more : n + 1 ≡ suc n = omega arith in
    ap (λ m. flat_map text (rising from m)) more
    ∙ text_later text from n
    ∙ ap (λ m. flat_map text (rising from n) ++ text m) (sym is)
