-- A walk along a list, one element after the other: what is known of its first elements, as each is passed.
use Rattle.std.proofs.Common.{◌≡◌, ◌∙◌, ap, refl, ℕ, ◌+◌, ◌<◌, Bool, false, List, [], ◌∷◌, ◌++◌, length, take, get_or, append-nil, arith}
use Rattle.std.proofs.lemmas.List.{take_more}
use Rattle.event_order.specs.OwnOrder.{in_turn, rise}
use Rattle.event_order.specs.declared.event.Event.{Event}
use Rattle.event_order.specs.declared.event.What.TheVariants.{Answer}

take-length : {X : Type 0} (xs : List X) → take (length xs) xs ≡ xs
take-length [] = refl
take-length (x ∷ xs) = ap (λ ys. x ∷ ys) (take-length xs)

-- behind the last element all were passed
pub all-passed : (f : List Event → Bool) (xs : List Event) (n : ℕ) → n ≡ length xs → f (take n xs ++ []) ≡ f xs
all-passed f xs n e = ap f (append-nil (take n xs) ∙ (ap (λ k. take k xs) e ∙ take-length xs))

-- so many were, and one more
pub so-far : (f : List Event → Bool) (xs : List Event) (n : ℕ) → f (take n xs ++ []) ≡ f (take n xs)
so-far f xs n = ap f (append-nil (take n xs))

pub one-more : (f : List Event → Bool) (xs : List Event) (n : ℕ) (d : Event) → n < length xs → f (take (n + 1) xs) ≡ f (take n xs ++ get_or xs n d ∷ [])
one-more f xs n d below = ap f (take_more xs n d below)

-- an event that answers another call, and one whose number does not rise
pub not-next : (e : Event) (next call : ℕ) (refused : Bool) → e.what ≡ Answer call refused → (call ≡ next → ⊥) → in_turn next (e ∷ []) ≡ false
not-next e next call refused is other = grind (arith, is, other)

pub not-rising : (e : Event) (d least : ℕ) → e.domain ≡ d → e.number < least → rise d least (e ∷ []) ≡ false
not-rising e d least is low = grind (arith, is, low)
