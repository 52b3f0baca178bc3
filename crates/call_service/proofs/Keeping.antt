-- What is kept beside a history that has one call more.
use Rattle.std.proofs.Common.{◌≡◌, ◌≢◌, ℕ, zero, suc, ◌<◌, false, not, ◌==◌, inl, inr, List, [], ◌∷◌, ◌++◌, Some, refl, ap, sym, ◌∙◌, arith, eq-eqb}
use Rattle.std.specs.Prelude.{slice_get, slice_set}
use Rattle.std.proofs.lemmas.Bool.{eqb-true, cases_Bool, and_left}
use Rattle.call_service.specs.declared.carried.Carried.{Carried}
use Rattle.call_service.specs.declared.request.Request.{Request}
use Rattle.call_service.specs.declared.service.Last.{Last}
use Rattle.call_service.specs.Served.{carried_out, last_of, next_number, value}
use Rattle.call_service.specs.Steps.{kept_call, kept_last}
use Rattle.call_service.proofs.Histories.{carried_cell, carried_client, carried_next, last-own, last-other, value-carried, value-other}

set-same : {X : Type 0} (xs : List X) (i : ℕ) (x y : X) → slice_get xs i ≡ Some x → slice_get (slice_set xs i y) i ≡ Some y
set-same [] i x y there = absurd cc
set-same (z ∷ xs) zero x y there = refl
set-same (z ∷ xs) (suc i) x y there = set-same xs i x y there

set-other : {X : Type 0} (xs : List X) (i j : ℕ) (y : X) → j ≢ i → slice_get (slice_set xs i y) j ≡ slice_get xs j
set-other [] i j y other = refl
set-other (z ∷ xs) zero zero y other = absurd (other refl)
set-other (z ∷ xs) zero (suc j) y other = refl
set-other (z ∷ xs) (suc i) zero y other = refl
set-other (z ∷ xs) (suc i) (suc j) y other = set-other xs i j y (omega arith)

apart_at : (i j : ℕ) → (i == j) ≡ false → j ≢ i
apart_at i j other same = let t = eq-eqb i j (sym same) in cc

pub cells-more : (h : List Carried) (e : Carried) (cells : List ℕ) (at : ℕ) → ((i : ℕ) → i < 16 → slice_get cells i ≡ Some (value h i)) → at ≡ e.cell → e.cell < 16 → e.value ≡ value (h ++ e ∷ []) e.cell → (i : ℕ) → i < 16 → slice_get (slice_set cells at e.value) i ≡ Some (value (h ++ e ∷ []) i)
cells-more h e cells at kept at_is low is i i_low =
    rw at_is (elim (cases_Bool (e.cell == i)) [
      | inl same ↦
          let own : e.cell ≡ i = eqb-true e.cell i same in
          rw (← own) (set-same cells e.cell (value h e.cell) e.value (kept e.cell low) ∙ ap Some is)
      | inr other ↦ set-other cells e.cell i e.value (apart_at e.cell i other) ∙ kept i i_low ∙ ap Some (sym (value-other h e i (and_left (e.cell == i) (not e.over) other)))
    ])

pub lasts-more : (h : List Carried) (e : Carried) (lasts : List Last) (at : ℕ) (l : Last) → ((c : ℕ) → c < 8 → slice_get lasts c ≡ Some (kept_last (last_of c h))) → at ≡ e.client → e.client < 8 → l ≡ kept_last (Some e) → (c : ℕ) → c < 8 → slice_get (slice_set lasts at l) c ≡ Some (kept_last (last_of c (h ++ e ∷ [])))
lasts-more h e lasts at l kept at_is low is c c_low =
    rw at_is (elim (cases_Bool (e.client == c)) [
      | inl same ↦
          let own : e.client ≡ c = eqb-true e.client c same in
          rw (← own) (set-same lasts e.client (kept_last (last_of e.client h)) l (kept e.client low) ∙ ap Some (is ∙ ap kept_last (sym (last-own e.client h e (eq-eqb e.client e.client refl)))))
      | inr other ↦ set-other lasts e.client c l (apart_at e.client c other) ∙ kept c c_low ∙ ap (λ o. Some (kept_last o)) (sym (last-other c h e other))
    ])

-- the call that is kept
pub record IsCarriedOut (h : List Carried) (r : Request) (e : Carried) : Type 0 where
  pub is : e ≡ carried_out h r
  pub client : e.client ≡ r.client
  pub cell : e.cell ≡ r.cell
  pub next : e.number ≡ next_number e.client h
  pub value : e.value ≡ value (h ++ e ∷ []) e.cell

pub added : (h : List Carried) (r : Request) (old : ℕ) (e : Carried) → old ≡ value h r.cell → e ≡ kept_call old r → r.number ≡ next_number r.client h → IsCarriedOut h r e
added h r old e old_is is next =
    let same : e ≡ carried_out h r = is ∙ ap (λ n. kept_call n r) old_is in
    record {
      is = same;
      client = ap (λ (x : Carried). x.client) same ∙ carried_client h r;
      cell = ap (λ (x : Carried). x.cell) same ∙ carried_cell h r;
      next = rw same (carried_next h r next);
      value = rw same (value-carried h r);
    }
