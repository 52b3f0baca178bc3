-- Lists that have an item of some kind: joined, counted, and along deeds.
use Rattle.std.proofs.Common.{◌≡◌, ◌⊎◌, inl, inr, ℕ, ◌≤◌, ◌<◌, zero, suc, get_or, length, Bool, true, false, cond, List, [], ◌∷◌, ◌++◌, filter, find, flat_map, Some, Contains, refl, sym, ap, subst, arith}
use Rattle.std.specs.Prelude.{count_by}
use Rattle.std.specs.List.{AllByRecursion}
use Rattle.std.proofs.lemmas.List.Elements.{Contains-append_left, Contains-append_right, Contains-push}
use Rattle.board_model.specs.State.{DomainState}
use Rattle.board_model.specs.Deeds.{Deed, MayDo, AllMayDo, after_deed, along}
use Rattle.board_model.proofs.ListsCounts.{one_if, count-cons}
use Rattle.board_model.proofs.MessageAlls.{all-append, all-weaken}
use Rattle.board_model.proofs.OrderLaws.{AllQueues}
use Rattle.board_model.proofs.OrderSound.{Sound}
use Rattle.board_model.proofs.WholeHas.{Has}

pub has_left : {A : Type 0} (P : A → Type 0) (xs ys : List A) → Has P xs → Has P (xs ++ ys)
has_left P [] ys h = absurd h
has_left P (x ∷ xs) ys (inl h) = inl h
has_left P (x ∷ xs) ys (inr h) = inr (has_left P xs ys h)

pub has_right : {A : Type 0} (P : A → Type 0) (xs ys : List A) → Has P ys → Has P (xs ++ ys)
has_right P [] ys h = h
has_right P (x ∷ xs) ys h = inr (has_right P xs ys h)

pub has_either : {A : Type 0} (P : A → Type 0) (xs ys : List A) → Has P (xs ++ ys) → Has P xs ⊎ Has P ys
has_either P [] ys h = inr h
has_either P (x ∷ xs) ys (inl h) = inl (inl h)
has_either P (x ∷ xs) ys (inr h) = elim (has_either P xs ys h) [ inl left ↦ inl (inr left) | inr right ↦ inr right ]

-- in which of the lists that were joined
pub has_in : {A B : Type 0} (P : B → Type 0) (f : A → List B) (xs : List A) → Has P (flat_map f xs) → Has (λ x. Has P (f x)) xs
has_in P f [] h = h
has_in P f (x ∷ xs) h = elim (has_either P (f x) (flat_map f xs) h) [ inl here ↦ inl here | inr later ↦ inr (has_in P f xs later) ]

pub has_one : {A : Type 0} (P : A → Type 0) (xs : List A) → Has P xs → (x : A) × Contains xs x × P x
has_one P [] h = absurd h
has_one P (x ∷ xs) (inl h) = (x, Contains-append_left (x ∷ []) xs x (Contains-push [] x), h)
has_one P (x ∷ xs) (inr h) = let y = has_one P xs h in (y.0, Contains-append_right (x ∷ []) xs y.0 y.1, y.2)

pub contained_has : {A : Type 0} (x : A) (xs : List A) → Contains xs x → Has (λ y. y ≡ x) xs
contained_has x [] c = absurd (omega (arith, c.1))
contained_has {A} x (y ∷ ys) c = go c.0 c.1 c.2
  where
    go : (k : ℕ) → k < length (y ∷ ys) → get_or (y ∷ ys) k x ≡ x → (y ≡ x) ⊎ Has (λ z. z ≡ x) ys
    go zero less at = inl at
    go (suc k) less at = inr (from ys k (omega (arith, less)) at)
      where
        from : (zs : List A) (i : ℕ) → i < length zs → get_or zs i x ≡ x → Has (λ z. z ≡ x) zs
        from [] i less at = absurd (omega (arith, less))
        from (z ∷ zs) zero less at = inl at
        from (z ∷ zs) (suc i) less at = inr (from zs i (omega (arith, less)) at)

pub has_filtered : {A : Type 0} (P : A → Type 0) (test : A → Bool) (xs : List A) → Has (λ x. P x × (test x ≡ true)) xs → Has P (filter test xs)
has_filtered P test [] h = h
has_filtered P test (x ∷ xs) (inl h) = subst (λ b. Has P (cond b (x ∷ filter test xs) (filter test xs))) (sym h.1) (inl h.0)
has_filtered {A} P test (x ∷ xs) (inr h) = go (test x) (has_filtered P test xs h)
  where
    go : (b : Bool) → Has P (filter test xs) → Has P (cond b (x ∷ filter test xs) (filter test xs))
    go true later = inr later
    go false later = later

pub has_at : {A : Type 0} (P : A → Type 0) (test : A → Bool) (xs : List A) (x : A) → find test xs ≡ Some x → P x → Has P xs
has_at P test [] x found p = absurd cc
has_at {A} P test (y ∷ ys) x found p = go (test y) found (λ is. has_at P test ys x is p)
  where
    go : (b : Bool) → cond b (Some y) (find test ys) ≡ Some x → (find test ys ≡ Some x → Has P ys) → P y ⊎ Has P ys
    go true is later = let same : y ≡ x = cc in inl (subst P (sym same) p)
    go false is later = inr (later is)

-- ---- counts

pub has_counted : {A : Type 0} (test : A → Bool) (xs : List A) → Has (λ x. test x ≡ true) xs → 1 ≤ count_by test xs
has_counted test [] h = absurd h
has_counted test (x ∷ xs) (inl h) = omega (arith, count-cons test x xs, ap one_if h)
has_counted test (x ∷ xs) (inr h) = omega (arith, count-cons test x xs, has_counted test xs h)

pub counted_has : {A : Type 0} (test : A → Bool) (xs : List A) → 1 ≤ count_by test xs → Has (λ x. test x ≡ true) xs
counted_has test [] h = absurd (omega (arith, h))
counted_has {A} test (x ∷ xs) h = go (test x) refl (counted_has test xs)
  where
    go : (b : Bool) → test x ≡ b → (1 ≤ count_by test xs → Has (λ y. test y ≡ true) xs) → (test x ≡ true) ⊎ Has (λ y. test y ≡ true) xs
    go true is later = inl is
    go false is later = inr (later (omega (arith, count-cons test x xs, ap one_if is, h)))

-- ---- along deeds

-- of each item that f says of a deed, something holds of one that g says
pub each_has : {A B : Type 0} (Q : A → B → Type 0) (f : DomainState → Deed → List A) (g : DomainState → Deed → List B) →
    ((s : DomainState) (d : Deed) → MayDo s d → Sound s → AllByRecursion (λ a. Has (Q a) (g s d)) (f s d)) →
    (s : DomainState) (ds : List Deed) → AllMayDo s ds → AllQueues s ds → AllByRecursion (λ a. Has (Q a) (along g s ds)) (along f s ds)
each_has Q f g one s [] may queues = tt
each_has Q f g one s (d ∷ ds) may queues =
    let rest = along g (after_deed s d) ds in
    all-append (λ a. Has (Q a) (along g s (d ∷ ds))) (f s d) (along f (after_deed s d) ds)
    (all-weaken (λ a. Has (Q a) (g s d)) (λ a. Has (Q a) (along g s (d ∷ ds))) (λ a h. has_left (Q a) (g s d) rest h) (f s d) (one s d may.0 queues.0))
    (all-weaken (λ a. Has (Q a) rest) (λ a. Has (Q a) (along g s (d ∷ ds))) (λ a h. has_right (Q a) (g s d) rest h) (along f (after_deed s d) ds) (each_has Q f g one (after_deed s d) ds may.1 queues.1))
