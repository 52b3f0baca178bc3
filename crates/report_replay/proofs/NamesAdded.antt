-- Lists of names, one of which grows.
use Rattle.std.proofs.Common.{◌≡◌, ◌≢◌, ℕ, zero, suc, ◌<◌, Bool, true, false, cond, List, [], ◌∷◌, ◌++◌, length, map, set, get_or, refl, sym, ap, subst, ◌∙◌, arith}
use Rattle.std.specs.Prelude.{◌==◌}
use Rattle.std.proofs.lemmas.Bool.{eqb-true, eqb-false}
use Rattle.std.proofs.lemmas.List.{append-nil}

-- some that stand for lists of names
module _ {V : Type 0} (f : V → List ℕ) where
  got : (vs : List V) (at : ℕ) (d : V) → at < length vs → get_or (map f vs) at [] ≡ f (get_or vs at d)
  got [] at d small = absurd (omega (arith, small))
  got (x ∷ xs) zero d small = refl
  got (x ∷ xs) (suc at) d small = got xs at d (omega (arith, small))

  set_there : (vs : List V) (at : ℕ) (v : V) → at < length vs → get_or (map f (set vs at v)) at [] ≡ f v
  set_there [] at v small = absurd (omega (arith, small))
  set_there (x ∷ xs) zero v small = refl
  set_there (x ∷ xs) (suc at) v small = set_there xs at v (omega (arith, small))

  set_elsewhere : (vs : List V) (at p : ℕ) (v : V) → at ≢ p → get_or (map f (set vs at v)) p [] ≡ get_or (map f vs) p []
  set_elsewhere [] at p v other = refl
  set_elsewhere (x ∷ xs) zero zero v other = absurd (other refl)
  set_elsewhere (x ∷ xs) zero (suc p) v other = refl
  set_elsewhere (x ∷ xs) (suc at) zero v other = refl
  set_elsewhere (x ∷ xs) (suc at) (suc p) v other = set_elsewhere xs at p v (λ same. other (ap suc same))

  -- one has a name more
  pub one-more : (vs : List V) (at p name : ℕ) (d v : V) → at < length vs → f v ≡ f (get_or vs at d) ++ name ∷ [] → get_or (map f (set vs at v)) p [] ≡ get_or (map f vs) p [] ++ cond (at == p) (name ∷ []) []
  one-more vs at p name d v small more = go (at == p) refl
    where
      go : (b : Bool) → (at == p) ≡ b → get_or (map f (set vs at v)) p [] ≡ get_or (map f vs) p [] ++ cond b (name ∷ []) []
      go true is =
          subst (λ q. get_or (map f (set vs at v)) q [] ≡ get_or (map f vs) q [] ++ name ∷ []) (eqb-true at p is)
          (set_there vs at v small ∙ (more ∙ ap (λ (ns : List ℕ). ns ++ name ∷ []) (sym (got vs at d small))))
      go false is = set_elsewhere vs at p v (eqb-false at p is) ∙ sym (append-nil (get_or (map f vs) p []))
