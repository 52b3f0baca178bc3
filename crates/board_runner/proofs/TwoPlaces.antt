-- Items at two places of a list, by the two parts into which it is split at the second.
use Rattle.std.proofs.Common.{◌≡◌, ℕ, zero, suc, ◌<◌, List, [], ◌∷◌, ◌++◌, length, get_or, slice_get, slice_set, Some, refl, sym, ap, ◌∙◌, arith, length-append}
use Rattle.board_runner.specs.Meeting.{MeetAt}

get_front : {A : Type 0} (front back : List A) (i : ℕ) (d : A) → i < length front → slice_get (front ++ back) i ≡ Some (get_or front i d)
get_front [] back i d within = absurd (omega (arith, within))
get_front (x ∷ front) back zero d within = refl
get_front (x ∷ front) back (suc i) d within = get_front front back i d (omega (arith, within))

get_back : {A : Type 0} (front back : List A) (d : A) → 0 < length back → slice_get (front ++ back) (length front) ≡ Some (get_or back 0 d)
get_back [] [] d some = absurd (omega (arith, some))
get_back [] (x ∷ back) d some = refl
get_back (x ∷ front) back d some = get_back front back d some

set_back : {A : Type 0} (front back : List A) (y : A) → slice_set (front ++ back) (length front) y ≡ front ++ slice_set back 0 y
set_back [] back y = refl
set_back {A} (x ∷ front) back y = ap (λ (xs : List A). x ∷ xs) (set_back front back y)

set_both : {A : Type 0} (front back : List A) (i : ℕ) (x y : A) → i < length front → slice_set (slice_set (front ++ back) i x) (length front) y ≡ slice_set front i x ++ slice_set back 0 y
set_both [] back i x y within = absurd (omega (arith, within))
set_both {A} (z ∷ front) back zero x y within = ap (λ (xs : List A). x ∷ xs) (set_back front back y)
set_both {A} (z ∷ front) back (suc i) x y within = ap (λ (xs : List A). z ∷ xs) (set_both front back i x y (omega (arith, within)))

-- the first of the second part meets one of the first
pub meets-at : {A : Type 0} (Met : A → A → A → A → Type 0) (low high : ℕ) (old front back : List A) (d e x y : A) → low < high → high < length old → old ≡ front ++ back → length front ≡ high → Met (get_or front low d) (get_or back 0 e) x y
    → MeetAt Met low high old (slice_set front low x ++ slice_set back 0 y)
meets-at {A} Met low high old front back d e x y order within value cut met =
    let before : low < length front = omega (arith, order, cut) in
    let some : 0 < length back = omega (arith, within, ap length value, length-append front back, cut) in
    record {
      one = get_or front low d;
      two = get_or back 0 e;
      one' = x;
      two' = y;
      at_one = ap (λ (xs : List A). slice_get xs low) value ∙ get_front front back low d before;
      at_two = ap (λ (xs : List A). slice_get xs high) value ∙ ap (slice_get (front ++ back)) (sym cut) ∙ get_back front back e some;
      met = met;
      new_is = sym (ap (λ (xs : List A). slice_set (slice_set xs low x) high y) value ∙ ap (λ (k : ℕ). slice_set (slice_set (front ++ back) low x) k y) (sym cut) ∙ set_both front back low x y before);
    }
