-- One peer that changes, by its number.
use Rattle.std.proofs.Common.{◌≡◌, ℕ, zero, suc, ◌<◌, Bool, true, false, cond, List, [], ◌∷◌, map, Some, refl, sym, ap, ◌∙◌, subst, arith, eq-eqb, ne_eqb}
use Rattle.std.specs.Prelude.{slice_get, slice_set, ◌==◌}
use Rattle.std.specs.List.{AllByRecursion}
use Rattle.domain_parts.specs.declared.peer.Peer.{Peer}
use Rattle.domain_parts.specs.AllMoved.{numbers_of}
use Rattle.domain_parts.specs.LaneSeen.{LaneSeen}
use Rattle.domain_parts.specs.Sound.{AreRising}
use Rattle.domain_parts.specs.Steps.{changed_peer}

pub number-above : {L : Type 0} (n : ℕ) (ps : List (Peer L)) (i : ℕ) (p : Peer L) → AllByRecursion (λ m. n < m) (numbers_of ps) → slice_get ps i ≡ Some p → n < p.number
number-above n [] i p all there = absurd cc
number-above n (x ∷ ps) zero p all there = let same : x ≡ p = cc in subst (λ (y : Peer _). n < y.number) same all.0
number-above n (x ∷ ps) (suc i) p all there = number-above n ps i p all.1 there

module _ (n : ℕ) (f : Peer LaneSeen → Peer LaneSeen) where
  -- what the change leaves stays at all peers
  pub changed-same : {X : Type 0} (g : Peer LaneSeen → X) → ((p : Peer LaneSeen) → g (f p) ≡ g p) → (ps : List (Peer LaneSeen)) → map g (map (changed_peer n f) ps) ≡ map g ps
  changed-same g same [] = refl
  changed-same {X} g same (p ∷ ps) = ap (λ (x : X). x ∷ map g (map (changed_peer n f) ps)) (one (n == p.number)) ∙ ap (λ (xs : List X). g p ∷ xs) (changed-same g same ps)
    where
      one : (b : Bool) → g (cond b (f p) p) ≡ g p
      one true = same p
      one false = refl

  above-same : (ps : List (Peer LaneSeen)) → AllByRecursion (λ m. n < m) (numbers_of ps) → map (changed_peer n f) ps ≡ ps
  above-same [] above = refl
  above-same (p ∷ ps) above =
      ap (λ (b : Bool). cond b (f p) p ∷ map (changed_peer n f) ps) (ne_eqb n p.number (λ e. let lt = above.0 in omega (arith, lt, e)))
      ∙ ap (λ (xs : List (Peer LaneSeen)). p ∷ xs) (above-same ps above.1)

  pub set-changed : (ps : List (Peer LaneSeen)) (i : ℕ) (x : Peer LaneSeen) → AreRising (numbers_of ps) → slice_get ps i ≡ Some x → x.number ≡ n → slice_set ps i (f x) ≡ map (changed_peer n f) ps
  set-changed [] i x rising there is = absurd cc
  set-changed (p ∷ ps) zero x rising there is =
      let same : p ≡ x = cc in
      let number : p.number ≡ n = ap (λ (y : Peer LaneSeen). y.number) same ∙ is in
      ap (λ (y : Peer LaneSeen). f y ∷ ps) (sym same)
      ∙ ap (λ (xs : List (Peer LaneSeen)). f p ∷ xs) (sym (above-same ps (subst (λ (k : ℕ). AllByRecursion (λ m. k < m) (numbers_of ps)) number rising.0)))
      ∙ ap (λ (b : Bool). cond b (f p) p ∷ map (changed_peer n f) ps) (sym (eq-eqb n p.number (sym number)))
  set-changed (p ∷ ps) (suc i) x rising there is =
      let above = number-above p.number ps i x rising.0 there in
      ap (λ (xs : List (Peer LaneSeen)). p ∷ xs) (set-changed ps i x rising.1 there is)
      ∙ ap (λ (b : Bool). cond b (f p) p ∷ map (changed_peer n f) ps) (sym (ne_eqb n p.number (λ e. omega (arith, above, is, e))))
