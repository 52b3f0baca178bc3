-- A list with one more item, of which each has a property.
use Rattle.std.proofs.Common.{◌≡◌, zero, suc, List, [], ◌∷◌, ◌++◌, subst, sym, arith}
use Rattle.std.specs.List.{All}
use Rattle.std.proofs.lemmas.List.Elements.{All-append}

one_alone : {X : Type 0} (P : X → Type 0) (x : X) → P x → All P (x ∷ [])
one_alone P x here zero d h = here
one_alone P x here (suc k) d h = absurd (omega (arith, h))

pub one_more_within : {X : Type 0} (P : X → Type 0) (old new : List X) (x : X) → All P old → new ≡ old ++ x ∷ [] → P x → All P new
one_more_within P old new x all is here = subst (λ l. All P l) (sym is) (All-append P old (x ∷ []) all (one_alone P x here))
