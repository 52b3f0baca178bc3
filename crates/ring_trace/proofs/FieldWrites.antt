-- One field of an image written: the image of the values with another in this field.
use Rattle.std.proofs.Common.{◌≡◌, ◌≢◌, ◌∙◌, ◌<◌, ◌+◌, ◌*◌, ◌-◌, ℕ, Bool, cond, List, [], ◌∷◌, ◌++◌, length, refl, sym, ap, append_assoc, length-append, eq-eqb, ne_eqb, arith}
use Rattle.std.specs.Prelude.{◌==◌, if◌then◌else◌}
use Rattle.std.specs.List.{flat_map, range_with_len}
use Rattle.std.proofs.lemmas.List.{append-nil}
use Rattle.byteorder.specs.Endian.{little_bytes}
use Rattle.board_model.specs.RingImage.{Values, image, descriptor, offered_entry, used_element, for_each, write, written, desc_len_at, avail_idx_at, avail_ring_at, used_idx_at, used_id_at, used_len_at}
use Rattle.ring_trace.proofs.Tables.{put-between, row-length, around, changed-table}

-- a value at one number, and the others as they were
abbrev pub set_at : ℕ → ℕ → (ℕ → ℕ) → ℕ → ℕ
set_at i x f k = if i == k then x else f k

set-here : (i x : ℕ) (f : ℕ → ℕ) → set_at i x f i ≡ x
set-here i x f = ap (λ (t : Bool). cond t x (f i)) (eq-eqb i i refl)

set-else : (i x j : ℕ) (f : ℕ → ℕ) → j ≢ i → f j ≡ set_at i x f j
set-else i x j f ne = sym (ap (λ (t : Bool). cond t x (f j)) (ne_eqb i j (λ e. ne (sym e))))

-- the bytes around a field of a table
regroup : (pre t p m s rest post : List ℕ) → pre ++ ((t ++ ((p ++ (m ++ s)) ++ rest)) ++ post) ≡ (pre ++ (t ++ p)) ++ (m ++ (s ++ (rest ++ post)))
regroup pre t p m s rest post = simp append_assoc

-- a field of the piece of number i, with p before it in the piece and s behind it
module _ (pre post : List ℕ) (f g : ℕ → List ℕ) (k n i w x at : ℕ) (p b s : List ℕ) where
  table-field : i < n → ((j : ℕ) → length (f j) ≡ k) → at ≡ length pre + (k * i + length p) → w ≡ length b
      → f i ≡ p ++ (b ++ s) → g i ≡ p ++ (little_bytes w x ++ s) → ((j : ℕ) → j ≢ i → f j ≡ g j)
      → written (pre ++ (for_each f n ++ post)) (write at w x) ≡ pre ++ (for_each g n ++ post)
  table-field low long here many before after same =
      let rest : List ℕ = flat_map f (range_with_len (i + 1) (n - (i + 1))) in
      let t : List ℕ = for_each f i in
      let old : pre ++ (for_each f n ++ post) ≡ (pre ++ (t ++ p)) ++ (b ++ (s ++ (rest ++ post))) =
      ap (λ l. pre ++ (l ++ post)) (around f i n low ∙ ap (λ l. t ++ (l ++ rest)) before) ∙ regroup pre t p b s rest post in
      let new : pre ++ (for_each g n ++ post) ≡ (pre ++ (t ++ p)) ++ (little_bytes w x ++ (s ++ (rest ++ post))) =
      ap (λ l. pre ++ (l ++ post)) (changed-table f g i n low same ∙ ap (λ l. t ++ (l ++ rest)) after) ∙ regroup pre t p (little_bytes w x) s rest post in
      let e1 = row-length f k 0 i long in
      let e2 = length-append t p in
      let e3 = length-append pre (t ++ p) in
      let at_field : at ≡ length (pre ++ (t ++ p)) = omega (arith, here, e1, e2, e3) in
      ap (λ l. written l (write at w x)) old ∙ (put-between (pre ++ (t ++ p)) b (s ++ (rest ++ post)) w at x at_field many ∙ sym new)

-- the bytes behind each table, and before it
abbrev behind_used : List ℕ
behind_used = 0 ∷ 0 ∷ []

abbrev behind_offered : ℕ → Values → List ℕ
behind_offered size v = 0 ∷ 0 ∷ 0 ∷ 0 ∷ (little_bytes 2 v.used_flags ++ (little_bytes 2 v.used_idx ++ (for_each (used_element v) size ++ behind_used)))

abbrev behind_descriptors : ℕ → Values → List ℕ
behind_descriptors size v = little_bytes 2 v.avail_flags ++ (little_bytes 2 v.avail_idx ++ (for_each (offered_entry v) size ++ behind_offered size v))

abbrev before_offered : ℕ → Values → List ℕ
before_offered size v = for_each (descriptor v) size ++ (little_bytes 2 v.avail_flags ++ little_bytes 2 v.avail_idx)

abbrev before_used_idx : ℕ → Values → List ℕ
before_used_idx size v = for_each (descriptor v) size ++ (little_bytes 2 v.avail_flags ++ (little_bytes 2 v.avail_idx ++ (for_each (offered_entry v) size ++ (0 ∷ 0 ∷ 0 ∷ 0 ∷ little_bytes 2 v.used_flags))))

abbrev before_used : ℕ → Values → List ℕ
before_used size v = before_used_idx size v ++ little_bytes 2 v.used_idx

three : (a b c d : List ℕ) → a ++ (b ++ (c ++ d)) ≡ (a ++ (b ++ c)) ++ d
three a b c d = simp append_assoc

seven : (a b c d e f g : List ℕ) → a ++ (b ++ (c ++ (d ++ (0 ∷ 0 ∷ 0 ∷ 0 ∷ (e ++ (f ++ g)))))) ≡ (a ++ (b ++ (c ++ (d ++ (0 ∷ 0 ∷ 0 ∷ 0 ∷ e))))) ++ (f ++ g)
seven a b c d e f g = simp append_assoc

at-offered : (size : ℕ) (v : Values) → image size v ≡ before_offered size v ++ (for_each (offered_entry v) size ++ behind_offered size v)
at-offered size v = three (for_each (descriptor v) size) (little_bytes 2 v.avail_flags) (little_bytes 2 v.avail_idx) (for_each (offered_entry v) size ++ behind_offered size v)

at-used-idx : (size : ℕ) (v : Values) → image size v ≡ before_used_idx size v ++ (little_bytes 2 v.used_idx ++ (for_each (used_element v) size ++ behind_used))
at-used-idx size v = seven (for_each (descriptor v) size) (little_bytes 2 v.avail_flags) (little_bytes 2 v.avail_idx) (for_each (offered_entry v) size) (little_bytes 2 v.used_flags) (little_bytes 2 v.used_idx) (for_each (used_element v) size ++ behind_used)

at-used : (size : ℕ) (v : Values) → image size v ≡ before_used size v ++ (for_each (used_element v) size ++ behind_used)
at-used size v = at-used-idx size v ∙ sym (append_assoc (before_used_idx size v) (little_bytes 2 v.used_idx) (for_each (used_element v) size ++ behind_used))

-- how many bytes stand before
before-offered : (size : ℕ) (v : Values) → length (before_offered size v) ≡ 16 * size + 4
before-offered size v =
    let a = row-length (descriptor v) 16 0 size (λ j. refl) in
    let e = length-append (for_each (descriptor v) size) (little_bytes 2 v.avail_flags ++ little_bytes 2 v.avail_idx) in
    omega (arith, a, e)

before-used-idx : (size : ℕ) (v : Values) → length (before_used_idx size v) ≡ 18 * size + 10
before-used-idx size v =
    let a = row-length (descriptor v) 16 0 size (λ j. refl) in
    let b = row-length (offered_entry v) 2 0 size (λ j. refl) in
    let gap : List ℕ = 0 ∷ 0 ∷ 0 ∷ 0 ∷ little_bytes 2 v.used_flags in
    let e1 = length-append (for_each (descriptor v) size) (little_bytes 2 v.avail_flags ++ (little_bytes 2 v.avail_idx ++ (for_each (offered_entry v) size ++ gap))) in
    let e2 = length-append (for_each (offered_entry v) size) gap in
    omega (arith, a, b, e1, e2)

before-used : (size : ℕ) (v : Values) → length (before_used size v) ≡ 18 * size + 12
before-used size v =
    let a = before-used-idx size v in
    let e = length-append (before_used_idx size v) (little_bytes 2 v.used_idx) in
    omega (arith, a, e)

-- ---- the six fields

module _ (size : ℕ) (v : Values) (i x : ℕ) where
  pub desc-len-written : i < size → written (image size v) (write (desc_len_at i) 4 x) ≡ image size (record v { len = set_at i x v.len })
  desc-len-written low = let u : Values = record v { len = set_at i x v.len } in
      table-field [] (behind_descriptors size v) (descriptor v) (descriptor u) 16 size i 4 x (desc_len_at i) (little_bytes 8 (v.addr i)) (little_bytes 4 (v.len i)) (little_bytes 2 (v.flags i) ++ little_bytes 2 (v.next i))
      low (λ j. refl) (omega arith) refl refl
      (ap (λ q. little_bytes 8 (v.addr i) ++ (little_bytes 4 q ++ (little_bytes 2 (v.flags i) ++ little_bytes 2 (v.next i)))) (set-here i x v.len))
      (λ j ne. ap (λ q. little_bytes 8 (v.addr j) ++ (little_bytes 4 q ++ (little_bytes 2 (v.flags j) ++ little_bytes 2 (v.next j)))) (set-else i x j v.len ne))

  pub avail-ring-written : i < size → written (image size v) (write (avail_ring_at size i) 2 x) ≡ image size (record v { avail_ring = set_at i x v.avail_ring })
  avail-ring-written low = let u : Values = record v { avail_ring = set_at i x v.avail_ring } in let before = before-offered size v in
      ap (λ l. written l (write (avail_ring_at size i) 2 x)) (at-offered size v)
      ∙ (table-field (before_offered size v) (behind_offered size v) (offered_entry v) (offered_entry u) 2 size i 2 x (avail_ring_at size i) [] (little_bytes 2 (v.avail_ring i)) []
      low (λ j. refl) (omega (arith, before)) refl (sym (append-nil (offered_entry v i)))
      (ap (little_bytes 2) (set-here i x v.avail_ring) ∙ sym (append-nil (little_bytes 2 x)))
      (λ j ne. ap (little_bytes 2) (set-else i x j v.avail_ring ne))
      ∙ sym (at-offered size u))

  pub used-id-written : i < size → written (image size v) (write (used_id_at size i) 4 x) ≡ image size (record v { used_id = set_at i x v.used_id })
  used-id-written low = let u : Values = record v { used_id = set_at i x v.used_id } in let before = before-used size v in
      ap (λ l. written l (write (used_id_at size i) 4 x)) (at-used size v)
      ∙ (table-field (before_used size v) behind_used (used_element v) (used_element u) 8 size i 4 x (used_id_at size i) [] (little_bytes 4 (v.used_id i)) (little_bytes 4 (v.used_len i))
      low (λ j. refl) (omega (arith, before)) refl refl
      (ap (λ q. little_bytes 4 q ++ little_bytes 4 (v.used_len i)) (set-here i x v.used_id))
      (λ j ne. ap (λ q. little_bytes 4 q ++ little_bytes 4 (v.used_len j)) (set-else i x j v.used_id ne))
      ∙ sym (at-used size u))

  pub used-len-written : i < size → written (image size v) (write (used_len_at size i) 4 x) ≡ image size (record v { used_len = set_at i x v.used_len })
  used-len-written low = let u : Values = record v { used_len = set_at i x v.used_len } in let before = before-used size v in
      ap (λ l. written l (write (used_len_at size i) 4 x)) (at-used size v)
      ∙ (table-field (before_used size v) behind_used (used_element v) (used_element u) 8 size i 4 x (used_len_at size i) (little_bytes 4 (v.used_id i)) (little_bytes 4 (v.used_len i)) []
      low (λ j. refl) (omega (arith, before)) refl (ap (λ l. little_bytes 4 (v.used_id i) ++ l) (sym (append-nil (little_bytes 4 (v.used_len i)))))
      (ap (λ q. little_bytes 4 (v.used_id i) ++ little_bytes 4 q) (set-here i x v.used_len) ∙ ap (λ l. little_bytes 4 (v.used_id i) ++ l) (sym (append-nil (little_bytes 4 x))))
      (λ j ne. ap (λ q. little_bytes 4 (v.used_id j) ++ little_bytes 4 q) (set-else i x j v.used_len ne))
      ∙ sym (at-used size u))

module _ (size : ℕ) (v : Values) (x : ℕ) where
  pub avail-idx-written : written (image size v) (write (avail_idx_at size) 2 x) ≡ image size (record v { avail_idx = x })
  avail-idx-written =
      let table : List ℕ = for_each (descriptor v) size in
      let flags : List ℕ = little_bytes 2 v.avail_flags in
      let rest : List ℕ = for_each (offered_entry v) size ++ behind_offered size v in
      let a = row-length (descriptor v) 16 0 size (λ j. refl) in
      let e = length-append table flags in
      ap (λ l. written l (write (avail_idx_at size) 2 x)) (sym (append_assoc table flags (little_bytes 2 v.avail_idx ++ rest)))
      ∙ (put-between (table ++ flags) (little_bytes 2 v.avail_idx) rest 2 (avail_idx_at size) x (omega (arith, a, e)) refl
      ∙ append_assoc table flags (little_bytes 2 x ++ rest))

  pub used-idx-written : written (image size v) (write (used_idx_at size) 2 x) ≡ image size (record v { used_idx = x })
  used-idx-written = let u : Values = record v { used_idx = x } in let before = before-used-idx size v in
      ap (λ l. written l (write (used_idx_at size) 2 x)) (at-used-idx size v)
      ∙ (put-between (before_used_idx size v) (little_bytes 2 v.used_idx) (for_each (used_element v) size ++ behind_used) 2 (used_idx_at size) x (omega (arith, before)) refl
      ∙ sym (at-used-idx size u))
