-- Two lists, of which each element of one goes with the one at its place in the other.
use Rattle.std.proofs.Common.{◌≡◌, ◌≢◌, ℕ, ◌+◌, ◌<◌, ◌≤◌, List, [], ◌∷◌, ◌++◌, length, map, get_or, drop, set, take, refl, ap, sym, ◌∙◌, subst, arith, below_more, get_or-set_other, get_or-set_same, length-append}
use Rattle.std.proofs.Math.ListN.{get_or-append}
use Rattle.std.proofs.Math.Seq.{get_or-append_seam, take-append_seam}
use Rattle.std.proofs.lemmas.List.{get_or-map, get_or_default, length-map, length-set}
use Rattle.board_numbers.specs.ItemCounts.{EachWith}

-- by what holds of two, another that holds of them
pub each-is : {A B : Type 0} (R S : A → B → Type 0) → ((x : A) (y : B) → R x y → S x y) → (xs : List A) (ys : List B) → EachWith R xs ys → EachWith S xs ys
each-is R S is xs ys all = record { many = all.many; each = λ k x y within. is (get_or xs k x) (get_or ys k y) (all.each k x y within) }

-- each with itself
pub each-same : {A : Type 0} (R : A → A → Type 0) → ((x : A) → R x x) → (xs : List A) → EachWith R xs xs
each-same R self xs = record { many = refl; each = λ k x y within. subst (R (get_or xs k x)) (get_or_default xs k x y within) (self (get_or xs k x)) }

-- one after the other
pub each-then : {A B : Type 0} (R : A → B → Type 0) (S : B → B → Type 0) (T : A → B → Type 0) → ((x : A) (y z : B) → R x y → S y z → T x z) → (xs : List A) (ys zs : List B) → EachWith R xs ys → EachWith S ys zs → EachWith T xs zs
each-then R S T then xs ys zs first next = record {
  many = next.many ∙ first.many;
  each = λ k x z within. then (get_or xs k x) (get_or ys k z) (get_or zs k z) (first.each k x z within) (next.each k z z (omega (arith, within, first.many)));
}

-- the two at one place
pub each-at : {A B : Type 0} (R : A → B → Type 0) (xs : List A) (ys : List B) → EachWith R xs ys → (k : ℕ) (x : A) (y : B) → k < length xs → y ≡ get_or ys k y → R (get_or xs k x) y
each-at R xs ys all k x y within is = subst (R (get_or xs k x)) (sym is) (all.each k x y within)

-- ---- a list that grows

-- so far
pub record EachSoFar {A B : Type 0} (R : A → B → Type 0) (i : ℕ) (xs : List A) (ys : List B) : Type 0 where
  pub many : length ys ≡ i
  pub each : (k : ℕ) (x : A) (y : B) → k < i → R (get_or xs k x) (get_or ys k y)

pub so-far-none : {A B : Type 0} (R : A → B → Type 0) (xs : List A) → EachSoFar {A = A} {B = B} R 0 xs []
so-far-none R xs = record { many = refl; each = λ k x y less. absurd (omega (arith, less)) }

pub so-far-more : {A B : Type 0} (R : A → B → Type 0) (i : ℕ) (xs : List A) (ys : List B) (x : A) (y : B) → i < length xs → x ≡ get_or xs i x → R x y → EachSoFar R i xs ys → EachSoFar R (i + 1) xs (ys ++ y ∷ [])
so-far-more {A} {B} R i xs ys x y within is one so = record {
  many = omega (arith, length-append ys (y ∷ []), so.many);
  each = λ k a b less.
      below_more (λ k. R (get_or xs k a) (get_or (ys ++ y ∷ []) k b)) i
      (λ k below. subst (R (get_or xs k a)) (sym (get_or-append ys (y ∷ []) b k (omega (arith, below, so.many)))) (so.each k a b below))
      (last a b) k less;
}
  where
    last : (a : A) (b : B) → R (get_or xs i a) (get_or (ys ++ y ∷ []) i b)
    last a b =
        let here : y ≡ get_or (ys ++ y ∷ []) i b = sym (get_or-append_seam ys y [] b) ∙ seam (length ys) so.many in
        subst (λ z. R z (get_or (ys ++ y ∷ []) i b)) (is ∙ get_or_default xs i x a within) (subst (R x) here one)
      where
        seam : (n : ℕ) → n ≡ i → get_or (ys ++ y ∷ []) n b ≡ get_or (ys ++ y ∷ []) i b
        seam n e = subst (λ k. get_or (ys ++ y ∷ []) n b ≡ get_or (ys ++ y ∷ []) k b) e refl

pub so-far-all : {A B : Type 0} (R : A → B → Type 0) (i : ℕ) (xs : List A) (ys : List B) → i ≡ length xs → EachSoFar R i xs ys → EachWith R xs ys
so-far-all R i xs ys all so = record { many = so.many ∙ all; each = λ k x y within. so.each k x y (omega (arith, within, all)) }

-- ---- a list whose elements are written in their order

pub record WrittenTo {A : Type 0} (R : A → A → Type 0) (i : ℕ) (old new : List A) : Type 0 where
  pub many : length new ≡ length old
  pub before : (k : ℕ) (x y : A) → k < i → R (get_or old k x) (get_or new k y)
  pub behind : (k : ℕ) (x : A) → i ≤ k → get_or new k x ≡ get_or old k x

pub written-none : {A : Type 0} (R : A → A → Type 0) (xs : List A) → WrittenTo R 0 xs xs
written-none R xs = record { many = refl; before = λ k x y less. absurd (omega (arith, less)); behind = λ k x from. refl }

pub written-next : {A : Type 0} (R : A → A → Type 0) (i : ℕ) (old new : List A) (x y : A) → i < length old → x ≡ get_or new i x → R x y → WrittenTo R i old new → WrittenTo R (i + 1) old (set new i y)
written-next {A} R i old new x y within is one so = record {
  many = length-set new i y ∙ so.many;
  before = λ k a b less.
      below_more (λ k. R (get_or old k a) (get_or (set new i y) k b)) i
      (λ k below. subst (R (get_or old k a)) (sym (get_or-set_other new i k y b (other k below))) (so.before k a b below))
      (last a b) k less;
  behind = λ k a from. get_or-set_other new i k y a (past k from) ∙ so.behind k a (omega (arith, from));
}
  where
    other : (k : ℕ) → k < i → k ≢ i
    other k below same = omega (arith, below, same)

    past : (k : ℕ) → i + 1 ≤ k → k ≢ i
    past k from same = omega (arith, from, same)

    last : (a b : A) → R (get_or old i a) (get_or (set new i y) i b)
    last a b =
        let there : i < length new = omega (arith, within, so.many) in
        let read : x ≡ get_or old i a = is ∙ get_or_default new i x a there ∙ so.behind i a (omega arith) in
        subst (λ z. R z (get_or (set new i y) i b)) read (subst (R x) (sym (get_or-set_same new i y b there)) one)

pub written-all : {A : Type 0} (R : A → A → Type 0) (i : ℕ) (old new : List A) → i ≡ length old → WrittenTo R i old new → EachWith R old new
written-all R i old new all so = record { many = so.many; each = λ k x y within. so.before k x y (omega (arith, within, all)) }

-- a slice of a whole list, written back
pub written-back : {A : Type 0} (n : ℕ) (lent old new : List A) → n ≡ length lent → lent ≡ old → length new ≡ length old → take n (new ++ drop (length new) old) ≡ new
written-back n lent old new size is same = ap (λ k. take k (new ++ drop (length new) old)) (size ∙ ap length is ∙ sym same) ∙ take-append_seam new (drop (length new) old)

-- ---- what is read of a list, and of what it is mapped to

pub mapped-within : {A B : Type 0} (f : A → B) (xs : List A) (i : ℕ) → i < length xs → i < length (map f xs)
mapped-within f xs i within = omega (arith, within, length-map xs f)

pub mapped-read : {A B : Type 0} (f : A → B) (xs : List A) (i : ℕ) (x : A) → i < length xs → x ≡ get_or xs i x → f x ≡ get_or (map f xs) i (f x)
mapped-read f xs i x within is = ap f is ∙ sym (get_or-map f xs i x (f x) within)
