-- What a domain holds of the lanes from its peers, peer by peer.
use Rattle.std.proofs.Common.{◌≡◌, ◌≢◌, ℕ, zero, suc, ◌+◌, ◌<◌, List, [], ◌∷◌, length, slice_get, slice_set, map, Some, refl, sym, ap, ap₂, ◌∙◌, subst, inl, inr, arith}
use Rattle.std.specs.Prelude.{Contains, IsSome}
use Rattle.std.proofs.lemmas.Bool.Decides.{eqb_tells}
use Rattle.board_model.specs.State.{DomainState, peer_of, queued_from, lent_from}
use Rattle.buffer_book.specs.declared.places.Places.{Places}
use Rattle.board_numbers.specs.Tallied.{places_held}
use Rattle.board_runner.proofs.PeersFound.{peer-contained}

-- the places of so many first peers
abbrev pub HeldBelow : DomainState → ℕ → List Places → Type 0
HeldBelow s k places = (n : ℕ) → n < k → IsSome (peer_of s n) → slice_get places n ≡ Some (places_held n s)

set_same : {A : Type 0} (xs : List A) (i : ℕ) (y : A) → i < length xs → slice_get (slice_set xs i y) i ≡ Some y
set_same [] i y within = absurd (omega (arith, within))
set_same (x ∷ xs) zero y within = refl
set_same (x ∷ xs) (suc i) y within = set_same xs i y (omega (arith, within))

set_other : {A : Type 0} (xs : List A) (i j : ℕ) (y : A) → j ≢ i → slice_get (slice_set xs i y) j ≡ slice_get xs j
set_other [] i j y other = refl
set_other (x ∷ xs) zero zero y other = absurd (other refl)
set_other (x ∷ xs) zero (suc j) y other = refl
set_other (x ∷ xs) (suc i) zero y other = refl
set_other (x ∷ xs) (suc i) (suc j) y other = set_other xs i j y (λ e. other (ap suc e))

module _ (s : DomainState) (k : ℕ) (places : List Places) (below : HeldBelow s k places) where
  before : (n : ℕ) → n < k + 1 → n ≢ k → n < k
  before n lt other = omega (arith, lt, other)

  pub held-more : (h : Places) → k < length places → h.queue ≡ queued_from k s → h.lent ≡ lent_from k s → HeldBelow s (k + 1) (slice_set places k h)
  held-more h within queue lent n lt there = elim (eqb_tells n k) [
    | inl is ↦
        let held : h ≡ places_held k s = ap₂ (λ (q l : ℕ). record { queue = q; lent = l }) queue lent in
        ap (slice_get (slice_set places k h)) is.1 ∙ set_same places k h within ∙ ap (λ (x : Places). Some x) held ∙ ap (λ (m : ℕ). Some (places_held m s)) (sym is.1)
    | inr other ↦ set_other places k n h other.1 ∙ below n (before n lt other.1) there
  ]

  pub held-skip : (Contains (map (λ p. p.number) s.peers) k → ⊥) → HeldBelow s (k + 1) places
  held-skip none n lt there = elim (eqb_tells n k) [
    | inl is ↦ absurd (none (peer-contained s k (subst (λ (m : ℕ). IsSome (peer_of s m)) is.1 there)))
    | inr other ↦ below n (before n lt other.1) there
  ]
