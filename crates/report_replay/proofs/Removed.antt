-- Lists from which an item is taken out, and the best item of a queue.
use Rattle.std.proofs.Common.{◌≡◌, ◌≤◌, ◌<◌, ℕ, zero, suc, min, Bool, true, false, cond, List, [], ◌∷◌, ◌++◌, length, get_or, take, drop, refl, ap, sym, ◌∙◌, arith, Option, Some, None}
use Rattle.std.specs.Prelude.{nat_lt, position, option_and_then, option_map, slice_get, unwrap_or}
use Rattle.std.proofs.lemmas.List.{drop_all}
use Rattle.std.proofs.lemmas.Option.{slice_get_read, slice_get_past}
use Rattle.board_model.specs.Lists.{with_rising, without_at, without}
use Rattle.board_model.proofs.MessageLists.{position-cons}
use Rattle.board_model.specs.Choice.{least}

without-within : {A : Type 0} (i : ℕ) (xs : List A) → i < length xs → take i xs ++ drop (suc i) xs ≡ without_at i xs
without-within i [] lt = absurd (omega arith)
without-within zero (x ∷ xs) lt = refl
without-within (suc i) (x ∷ xs) lt = ap (λ ys. x ∷ ys) (without-within i xs (omega arith))

without-past : {A : Type 0} (i : ℕ) (xs : List A) → length xs ≤ i → xs ≡ without_at i xs
without-past i [] past = refl
without-past zero (x ∷ xs) past = absurd (omega arith)
without-past (suc i) (x ∷ xs) past = ap (λ ys. x ∷ ys) (without-past i xs (omega arith))

-- the item at a place is taken out, where there is one
pub taken-within : {A : Type 0} (o : Option ℕ) (i : ℕ) (xs rest : List A) → o ≡ Some i → i < length xs → rest ≡ take i xs ++ drop (suc i) xs → rest ≡ without o xs
taken-within o i xs rest is lt made = made ∙ without-within i xs lt ∙ ap (λ p. without p xs) (sym is)

pub taken-past : {A : Type 0} (o : Option ℕ) (i : ℕ) (xs : List A) → o ≡ Some i → length xs ≤ i → xs ≡ without o xs
taken-past o i xs is past = without-past i xs past ∙ ap (λ p. without p xs) (sym is)

pub got-within : {A : Type 0} (o : Option ℕ) (i : ℕ) (xs : List A) (x : A) → o ≡ Some i → i < length xs → x ≡ get_or xs i x → Some x ≡ option_and_then (λ j. slice_get xs j) o
got-within o i xs x is lt read = sym (ap (option_and_then (λ j. slice_get xs j)) is ∙ slice_get_read xs (length xs) i x refl lt read)

pub got-past : {A : Type 0} (o : Option ℕ) (i : ℕ) (xs : List A) → o ≡ Some i → length xs ≤ i → None ≡ option_and_then (λ j. slice_get xs j) o
got-past o i xs is past = sym (ap (option_and_then (λ j. slice_get xs j)) is ∙ slice_get_past xs i past)

-- a number put before the first that is greater, or last
abbrev put_at : ℕ → List ℕ → Option ℕ → List ℕ
put_at n xs o = take (unwrap_or o (length xs)) xs ++ n ∷ drop (unwrap_or o (length xs)) xs

pub rising-put : (n : ℕ) (xs : List ℕ) → put_at n xs (position (nat_lt n) xs) ≡ with_rising n xs
rising-put n [] = refl
rising-put n (x ∷ xs) = ap (put_at n (x ∷ xs)) (position-cons (nat_lt n) x xs) ∙ go (nat_lt n x) (position (nat_lt n) xs) (rising-put n xs)
  where
    go : (b : Bool) (o : Option ℕ) → put_at n xs o ≡ with_rising n xs → put_at n (x ∷ xs) (cond b (Some 0) (option_map suc o)) ≡ cond b (n ∷ x ∷ xs) (x ∷ with_rising n xs)
    go true o rest = refl
    go false None rest = ap (λ ys. x ∷ ys) rest
    go false (Some i) rest = ap (λ ys. x ∷ ys) rest

-- the least priority number so far, with those that follow
abbrev pub least_from : {A : Type 0} → (A → ℕ) → ℕ → List A → ℕ
least_from f m [] = m
least_from f m (x ∷ xs) = least_from f (min m (f x)) xs

least_from-is : {A : Type 0} (f : A → ℕ) (m : ℕ) (x : A) (xs : List A) → least_from f m (x ∷ xs) ≡ min m (least f (x ∷ xs))
least_from-is f m x [] = refl
least_from-is f m x (y ∷ ys) =
    let rest : least_from f (min m (f x)) (y ∷ ys) ≡ min (min m (f x)) (least f (y ∷ ys)) = least_from-is f (min m (f x)) y ys in
    omega (arith, rest)

least_of : {A : Type 0} (f : A → ℕ) (x : A) (xs : List A) → least_from f (f x) (x ∷ xs) ≡ least f (x ∷ xs)
least_of f x [] = omega arith
least_of f x (y ∷ ys) = omega (arith, least_from-is f (f x) x (y ∷ ys))

-- from the first on, to the end, it is the least
pub least-found : {A : Type 0} (f : A → ℕ) (xs : List A) (x : A) (m i : ℕ) → 0 < length xs → x ≡ get_or xs 0 x → length xs ≤ i → least_from f m (drop i xs) ≡ least_from f (f x) xs → m ≡ least f xs
least-found f [] x m i some first past same = absurd (omega arith)
least-found f (y ∷ ys) x m i some first past same =
    ap (least_from f m) (sym (drop_all i (y ∷ ys) past)) ∙ same ∙ ap (λ z. least_from f (f z) (y ∷ ys)) first ∙ least_of f y ys
