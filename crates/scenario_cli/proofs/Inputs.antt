-- What was read, where the source tells its bytes; and that a text tells something or is refused.
use Rattle.std.proofs.Common.{◌≡◌, ℕ, List, ◌++◌, [], Option, Some, None, Result, Ok, Err, sym, ap, ◌∙◌, append-nil, subst}
use Rattle.std.specs.Prelude.{IfSome}
use Rattle.std.specs.Io.KnownBytes.{Consumes, IsAtEnd}

-- all that the source had was read
pub all_read : (all rest text : List ℕ) → all ≡ text ++ rest → rest ≡ [] → all ≡ text
all_read all rest text e empty = e ∙ ap (λ (r : List ℕ). text ++ r) empty ∙ append-nil text

-- a fact of the text that was read is one of the bytes that the source had
pub if_text : (old new : Option (List ℕ)) (text : List ℕ) (Q : List ℕ → Type 0) → Consumes old new text → IsAtEnd new → Q text → IfSome old Q
if_text None new text Q read end h = tt
if_text (Some all) None text Q read end h = absurd read
if_text (Some all) (Some rest) text Q read end h = subst Q (sym (all_read all rest text read end)) h

-- it does not both
pub not_both : {A E : Type 0} (r : Result A E) (x : A) (e : E) → r ≡ Ok x → r ≡ Err e → ⊥
not_both r x e ok err = let both : Ok x ≡ Err e = sym ok ∙ err in absurd cc
