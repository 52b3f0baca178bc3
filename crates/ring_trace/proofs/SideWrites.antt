-- All writes of a side: the image of the values with the last entries in its fields.
use Rattle.std.proofs.Common.{◌≡◌, ◌∙◌, ◌<◌, ◌+◌, ◌%◌, ℕ, suc, List, [], ◌∷◌, ◌++◌, length, map, refl, sym, ap, add-one, arith}
use Rattle.std.specs.Prelude.{◌==◌}
use Rattle.std.specs.List.{All}
use Rattle.std.proofs.Math.Nat.{mod-lt}
use Rattle.shared_words.specs.Entry.{Entry, number_of}
use Rattle.shared_words.specs.LastEntries.{last_from}
use Rattle.board_model.specs.RingImage.{Values, Offer, ImageWrite, image, write, written, all_written, steps_from, driver_step, device_step, avail_ring_at, avail_idx_at, used_len_at, used_idx_at}
use Rattle.ring_trace.specs.BothSides.{offer_of}
use Rattle.ring_trace.proofs.FieldWrites.{set_at, desc-len-written, avail-ring-written, avail-idx-written, used-id-written, used-len-written, used-idx-written}

pub all_then : (bytes : List ℕ) (xs ys : List ImageWrite) → all_written bytes (xs ++ ys) ≡ all_written (all_written bytes xs) ys
all_then bytes [] ys = refl
all_then bytes (w ∷ ws) ys = all_then (written bytes w) ws ys

-- a side that is done with each entry as with one, and counts in its index
module _ (size : ℕ) (step : ℕ → Offer → List ImageWrite) (done : Values → ℕ → List Entry → Values) (idx : Values → ℕ) (Fits : Entry → Type 0)
    (one : (v : Values) (n : ℕ) (e : Entry) → Fits e → all_written (image size v) (step n (offer_of e)) ≡ image size (done v n (e ∷ [])))
    (more : (v : Values) (n : ℕ) (e : Entry) (es : List Entry) → done (done v n (e ∷ [])) (suc n) es ≡ done v n (e ∷ es))
    (none : (v : Values) (n : ℕ) → idx v ≡ n % 65536 → done v n [] ≡ v)
    (counts : (v : Values) (n : ℕ) (e : Entry) → idx (done v n (e ∷ [])) ≡ suc n % 65536) where
  pub all-steps : (v : Values) (n : ℕ) (es : List Entry) → idx v ≡ n % 65536 → All Fits es → all_written (image size v) (steps_from step n (map offer_of es)) ≡ image size (done v n es)
  all-steps v n [] begun fits = ap (image size) (sym (none v n begun))
  all-steps v n (e ∷ es) begun fits =
      let rest : ℕ → List ImageWrite = λ k. steps_from step k (map offer_of es) in
      all_then (image size v) (step n (offer_of e)) (rest (n + 1))
      ∙ (ap (λ l. all_written l (rest (n + 1))) (one v n e (fits 0 e (omega arith)))
      ∙ (ap (λ k. all_written (image size (done v n (e ∷ []))) (rest k)) (add-one n)
      ∙ (all-steps (done v n (e ∷ [])) (suc n) es (counts v n e) (λ k d h. fits (suc k) d (omega (arith, h)))
      ∙ ap (image size) (more v n e es))))

-- the index counts on
next-count : (n : ℕ) → (n + 1) % 65536 ≡ suc n % 65536
next-count n = ap (λ k. k % 65536) (add-one n)

further : (n m : ℕ) → (suc n + m) % 65536 ≡ (n + suc m) % 65536
further n m = ap (λ k. k % 65536) (let h : suc n + m ≡ n + suc m = omega arith in h)

not-yet : (n : ℕ) → (n + 0) % 65536 ≡ n % 65536
not-yet n = ap (λ k. k % 65536) (let h : n + 0 ≡ n = omega arith in h)

module _ (size : ℕ) where
  -- the values once these were offered, of which the first is the n-th
  abbrev pub offered_on : Values → ℕ → List Entry → Values
  offered_on v n es = record v {
    len = λ k. last_from (λ m e. number_of e == k) (λ e. e.1) (v.len k) n es;
    avail_ring = λ p. last_from (λ m e. (m % size) == p) number_of (v.avail_ring p) n es;
    avail_idx = (n + length es) % 65536;
  }

  one-offered : (v : Values) (n : ℕ) (e : Entry) → number_of e < size → all_written (image size v) (driver_step size n (offer_of e)) ≡ image size (offered_on v n (e ∷ []))
  one-offered v n e low =
      let v1 : Values = record v { len = set_at (number_of e) e.1 v.len } in
      let v2 : Values = record v1 { avail_ring = set_at (n % size) (number_of e) v.avail_ring } in
      let number : ImageWrite = write (avail_ring_at size (n % size)) 2 (number_of e) in
      let index : ImageWrite = write (avail_idx_at size) 2 ((n + 1) % 65536) in
      ap (λ l. written (written l number) index) (desc-len-written size v (number_of e) e.1 low)
      ∙ (ap (λ l. written l index) (avail-ring-written size v1 (n % size) (number_of e) (mod-lt n (omega (arith, low))))
      ∙ avail-idx-written size v2 ((n + 1) % 65536))

  pub all_offered : (v : Values) (n : ℕ) (es : List Entry) → v.avail_idx ≡ n % 65536 → All (λ (e : Entry). number_of e < size) es
      → all_written (image size v) (steps_from (driver_step size) n (map offer_of es)) ≡ image size (offered_on v n es)
  all_offered = all-steps size (driver_step size) offered_on (λ v. v.avail_idx) (λ e. number_of e < size)
      one-offered
      (λ v n e es. ap (λ c. record (offered_on v n (e ∷ es)) { avail_idx = c }) (further n (length es)))
      (λ v n begun. ap (λ c. record v { avail_idx = c }) (not-yet n ∙ sym begun))
      (λ v n e. next-count n)

  -- the values once these were returned
  abbrev pub returned_on : Values → ℕ → List Entry → Values
  returned_on v n es = record v {
    used_id = λ p. last_from (λ m e. (m % size) == p) number_of (v.used_id p) n es;
    used_len = λ p. last_from (λ m e. (m % size) == p) (λ e. e.1) (v.used_len p) n es;
    used_idx = (n + length es) % 65536;
  }

  one-returned : (v : Values) (n : ℕ) (e : Entry) → 0 < size → all_written (image size v) (device_step size n (offer_of e)) ≡ image size (returned_on v n (e ∷ []))
  one-returned v n e some =
      let v1 : Values = record v { used_id = set_at (n % size) (number_of e) v.used_id } in
      let v2 : Values = record v1 { used_len = set_at (n % size) e.1 v.used_len } in
      let len : ImageWrite = write (used_len_at size (n % size)) 4 e.1 in
      let index : ImageWrite = write (used_idx_at size) 2 ((n + 1) % 65536) in
      ap (λ l. written (written l len) index) (used-id-written size v (n % size) (number_of e) (mod-lt n some))
      ∙ (ap (λ l. written l index) (used-len-written size v1 (n % size) e.1 (mod-lt n some))
      ∙ used-idx-written size v2 ((n + 1) % 65536))

  pub all_returned : (v : Values) (n : ℕ) (es : List Entry) → v.used_idx ≡ n % 65536 → All (λ (e : Entry). 0 < size) es
      → all_written (image size v) (steps_from (device_step size) n (map offer_of es)) ≡ image size (returned_on v n es)
  all_returned = all-steps size (device_step size) returned_on (λ v. v.used_idx) (λ e. 0 < size)
      one-returned
      (λ v n e es. ap (λ c. record (returned_on v n (e ∷ es)) { used_idx = c }) (further n (length es)))
      (λ v n begun. ap (λ c. record v { used_idx = c }) (not-yet n ∙ sym begun))
      (λ v n e. next-count n)
