-- The links among the ends of a domain.
use Rattle.std.proofs.Common.{◌≡◌, ◌≤◌, ◌<◌, List, [], ◌∷◌, ◌++◌, length, refl, sym, ap, ◌∙◌, arith}
use Rattle.std.proofs.lemmas.List.{append_assoc, length-append, length-map}
use Rattle.domain_parts.specs.declared.link.Link.{Link}
use Rattle.domain_parts.specs.declared.ends.Ends.{Ends}
use Rattle.domain_parts.specs.declared.ends.Ends.TheVariants.{Own, Linked}
use Rattle.domain_parts.specs.declared.peer.Peer.{Peer}
use Rattle.domain_parts.specs.AllMoved.{ends_of}
use Rattle.domain_parts.specs.Opening.{links_in}

pub whole-more : {X : Type 0} (first : List X) (x : X) (rest all : List X) → first ++ x ∷ rest ≡ all → (first ++ x ∷ []) ++ rest ≡ all
whole-more first x rest all whole = append_assoc first (x ∷ []) rest ∙ whole

append-nil : {X : Type 0} (xs : List X) → xs ++ [] ≡ xs
append-nil [] = refl
append-nil {X} (x ∷ xs) = ap (λ (ys : List X). x ∷ ys) (append-nil xs)

pub none-left : {X : Type 0} (first rest all : List X) → length rest ≡ 0 → first ++ rest ≡ all → first ≡ all
none-left first [] all none whole = sym (append-nil first) ∙ whole
none-left first (x ∷ rest) all none whole = absurd (omega (arith, none))

module _ {S R : Type 0} where
  pub links-append : (es fs : List (Ends S R)) → links_in (es ++ fs) ≡ links_in es ++ links_in fs
  links-append [] fs = refl
  links-append (Own l ∷ es) fs = links-append es fs
  links-append (Linked l ∷ es) fs = ap (λ (ls : List (Link S R)). l ∷ ls) (links-append es fs)

  links-fit : (es : List (Ends S R)) → length (links_in es) ≤ length es
  links-fit [] = omega arith
  links-fit (Own l ∷ es) = let rest = links-fit es in omega (arith, rest)
  links-fit (Linked l ∷ es) = let rest = links-fit es in omega (arith, rest)

  -- those of the first peers leave room for one more
  pub few-links : (first : List (Peer (Ends S R))) (p : Peer (Ends S R)) (rest all : List (Peer (Ends S R))) → first ++ p ∷ rest ≡ all → length all ≤ 8 → length (links_in (ends_of first)) < 8
  few-links first p rest all whole few =
      let long = ap length whole in
      omega (arith, few, long, length-append first (p ∷ rest), length-map first (λ (q : Peer (Ends S R)). q.ends), links-fit (ends_of first))

  pub links-more : (first : List (Peer (Ends S R))) (p : Peer (Ends S R)) → links_in (ends_of (first ++ p ∷ [])) ≡ links_in (ends_of first) ++ links_in (p.ends ∷ [])
  links-more [] p = refl
  links-more (q ∷ first) p = go q.ends (links-more first p)
    where
      go : (e : Ends S R) → links_in (ends_of (first ++ p ∷ [])) ≡ links_in (ends_of first) ++ links_in (p.ends ∷ []) → links_in (e ∷ ends_of (first ++ p ∷ [])) ≡ links_in (e ∷ ends_of first) ++ links_in (p.ends ∷ [])
      go (Own l) same = same
      go (Linked l) same = ap (λ (ls : List (Link S R)). l ∷ ls) same

  pub same-links : (links : List (Link S R)) (e : Ends S R) → [] ≡ links_in (e ∷ []) → links ++ links_in (e ∷ []) ≡ links
  same-links links e none = ap (λ (ls : List (Link S R)). links ++ ls) (sym none) ∙ append-nil links
