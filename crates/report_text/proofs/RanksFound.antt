-- What is put at its rank stands where the numbers rise.
use Rattle.std.proofs.Common.{◌≡◌, ℕ, ◌+◌, Bool, true, false, cond, List, [], ◌∷◌, ◌++◌, take, drop, refl, ap, ◌∙◌, add-one}
use Rattle.std.specs.Prelude.{nat_lt, insert}
use Rattle.board_model.specs.declared.scenario.DomainLine.{DomainLine}
use Rattle.board_model.specs.Scenario.{ranked, ranked_domain}
use Rattle.report_text.specs.declared.board.Numbered.{Numbered}
use Rattle.report_text.specs.Ranks.{domain_rank, neighbour_rank}
use Rattle.report_text.specs.Texts.{neighbour_of, neighbours_of}

pub domain-ranked : (d : DomainLine) (ds : List DomainLine) → insert ds (domain_rank d.domain ds) d ≡ ranked_domain d ds
domain-ranked d [] = refl
domain-ranked d (e ∷ es) = go (domain-ranked d es) (nat_lt d.domain e.domain)
  where
    more : (n : ℕ) → insert es n d ≡ ranked_domain d es → insert (e ∷ es) (n + 1) d ≡ e ∷ ranked_domain d es
    more n h = ap (λ k. take k (e ∷ es) ++ d ∷ drop k (e ∷ es)) (add-one n) ∙ ap (λ xs. e ∷ xs) h

    go : insert es (domain_rank d.domain es) d ≡ ranked_domain d es → (t : Bool) → insert (e ∷ es) (cond t 0 (domain_rank d.domain es + 1)) d ≡ cond t (d ∷ e ∷ es) (e ∷ ranked_domain d es)
    go h true = refl
    go h false = more (domain_rank d.domain es) h

pub neighbour-ranked : (n : Numbered) (ns : List Numbered) → neighbours_of (insert ns (neighbour_rank n.number (neighbours_of ns)) n) ≡ ranked (neighbour_of n) (neighbours_of ns)
neighbour-ranked n [] = refl
neighbour-ranked n (m ∷ ms) = go (neighbour-ranked n ms) (nat_lt n.number m.number)
  where
    more : (k : ℕ) → neighbours_of (insert ms k n) ≡ ranked (neighbour_of n) (neighbours_of ms) → neighbours_of (insert (m ∷ ms) (k + 1) n) ≡ neighbour_of m ∷ ranked (neighbour_of n) (neighbours_of ms)
    more k h = ap (λ j. neighbours_of (take j (m ∷ ms) ++ n ∷ drop j (m ∷ ms))) (add-one k) ∙ ap (λ xs. neighbour_of m ∷ xs) h

    go : neighbours_of (insert ms (neighbour_rank n.number (neighbours_of ms)) n) ≡ ranked (neighbour_of n) (neighbours_of ms) → (t : Bool) → neighbours_of (insert (m ∷ ms) (cond t 0 (neighbour_rank n.number (neighbours_of ms) + 1)) n) ≡ cond t (neighbour_of n ∷ neighbour_of m ∷ neighbours_of ms) (neighbour_of m ∷ ranked (neighbour_of n) (neighbours_of ms))
    go h true = refl
    go h false = more (neighbour_rank n.number (neighbours_of ms)) h
