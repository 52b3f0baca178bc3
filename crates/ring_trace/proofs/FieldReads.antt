-- One field of an image read: the value that the image has in this field.
use Rattle.std.proofs.Common.{◌≡◌, ◌∙◌, ◌<◌, ◌+◌, ◌*◌, ◌-◌, ◌^◌, ℕ, List, [], ◌∷◌, ◌++◌, length, drop, refl, sym, ap, append_assoc, length-append, arith}
use Rattle.std.specs.List.{flat_map, range_with_len}
use Rattle.std.proofs.Math.Seq.{drop-append_seam}
use Rattle.byteorder.specs.Endian.{little_bytes, little_number}
use Rattle.byteorder.specs.Numbers.{little_number-reads_back}
use Rattle.mc_base.specs.Bytes.{number_at}
use Rattle.board_model.specs.RingImage.{Values, image, descriptor, offered_entry, used_element, for_each}
use Rattle.ring_trace.proofs.Tables.{row-length, around}

-- a number with bytes before it and after it
pub number-there : (bytes a c : List ℕ) (place w x : ℕ) → bytes ≡ a ++ (little_bytes w x ++ c) → place ≡ length a → x < 256 ^ w → number_at place w bytes ≡ x
number-there bytes a c place w x is here fits =
    let rest : List ℕ = little_bytes w x ++ c in
    ap (λ l. little_number w (drop place l)) is
    ∙ (ap (λ k. little_number w (drop k (a ++ rest))) here
    ∙ (ap (little_number w) (drop-append_seam a rest) ∙ little_number-reads_back w x c fits))

-- the bytes around a field of a table
regroup : (pre t p m s rest post : List ℕ) → pre ++ ((t ++ ((p ++ (m ++ s)) ++ rest)) ++ post) ≡ (pre ++ (t ++ p)) ++ (m ++ (s ++ (rest ++ post)))
regroup pre t p m s rest post = simp append_assoc

-- a field of the piece of number i of a table, with p before it in the piece and s behind it
pub table-there : (pre post : List ℕ) (f : ℕ → List ℕ) (k n i place w x : ℕ) (p s : List ℕ) → i < n → ((j : ℕ) → length (f j) ≡ k)
    → f i ≡ p ++ (little_bytes w x ++ s) → place ≡ length pre + (k * i + length p) → x < 256 ^ w
    → number_at place w (pre ++ (for_each f n ++ post)) ≡ x
table-there pre post f k n i place w x p s low long piece here fits =
    let t : List ℕ = for_each f i in
    let rest : List ℕ = flat_map f (range_with_len (i + 1) (n - (i + 1))) in
    let is : pre ++ (for_each f n ++ post) ≡ (pre ++ (t ++ p)) ++ (little_bytes w x ++ (s ++ (rest ++ post))) =
    ap (λ l. pre ++ (l ++ post)) (around f i n low ∙ ap (λ l. t ++ (l ++ rest)) piece) ∙ regroup pre t p (little_bytes w x) s rest post in
    let e1 = row-length f k 0 i long in
    let e2 = length-append t p in
    let e3 = length-append pre (t ++ p) in
    number-there (pre ++ (for_each f n ++ post)) (pre ++ (t ++ p)) (s ++ (rest ++ post)) place w x is (omega (arith, here, e1, e2, e3)) fits

module _ (size : ℕ) (v : Values) where
  abbrev descriptors : List ℕ
  descriptors = for_each (descriptor v) size

  -- flags and idx of the available ring
  abbrev head : List ℕ
  head = little_bytes 2 v.avail_flags ++ little_bytes 2 v.avail_idx

  abbrev entries : List ℕ
  entries = for_each (offered_entry v) size

  abbrev elements : List ℕ
  elements = for_each (used_element v) size

  -- what comes after the entries of the available ring
  abbrev tail : List ℕ
  tail = 0 ∷ 0 ∷ 0 ∷ 0 ∷ (little_bytes 2 v.used_flags ++ (little_bytes 2 v.used_idx ++ (elements ++ (0 ∷ 0 ∷ []))))

  descriptors-length : length descriptors ≡ 16 * size
  descriptors-length = row-length (descriptor v) 16 0 size (λ j. refl)

  entries-length : length entries ≡ 2 * size
  entries-length = row-length (offered_entry v) 2 0 size (λ j. refl)

  elements-length : length elements ≡ 8 * size
  elements-length = row-length (used_element v) 8 0 size (λ j. refl)

  behind : (d m e p q : List ℕ) → d ++ (m ++ (e ++ (p ++ q))) ≡ (d ++ (m ++ (e ++ p))) ++ q
  behind d m e p q = simp append_assoc

  behind-length : (p : List ℕ) → length (descriptors ++ (head ++ (entries ++ p))) ≡ 18 * size + 4 + length p
  behind-length p = let a = length-append descriptors (head ++ (entries ++ p)) in let b = length-append entries p in
      let d = descriptors-length in let e = entries-length in omega (arith, a, b, d, e)

  -- a field after the entries, with p before it
  later : (p c : List ℕ) (place w x : ℕ) → image size v ≡ descriptors ++ (head ++ (entries ++ (p ++ (little_bytes w x ++ c)))) → place ≡ 18 * size + 4 + length p → x < 256 ^ w → number_at place w (image size v) ≡ x
  later p c place w x is here fits = let long = behind-length p in
      number-there (image size v) (descriptors ++ (head ++ (entries ++ p))) c place w x (is ∙ behind descriptors head entries p (little_bytes w x ++ c)) (omega (arith, here, long)) fits

  pub addr-read : (i : ℕ) → i < size → v.addr i < 256 ^ 8 → number_at (16 * i) 8 (image size v) ≡ v.addr i
  addr-read i low fits = table-there [] (head ++ (entries ++ tail)) (descriptor v) 16 size i (16 * i) 8 (v.addr i) [] (little_bytes 4 (v.len i) ++ (little_bytes 2 (v.flags i) ++ little_bytes 2 (v.next i)))
      low (λ j. refl) refl (omega arith) fits

  pub len-read : (i : ℕ) → i < size → v.len i < 256 ^ 4 → number_at (8 + 16 * i) 4 (image size v) ≡ v.len i
  len-read i low fits = table-there [] (head ++ (entries ++ tail)) (descriptor v) 16 size i (8 + 16 * i) 4 (v.len i) (little_bytes 8 (v.addr i)) (little_bytes 2 (v.flags i) ++ little_bytes 2 (v.next i))
      low (λ j. refl) refl (omega arith) fits

  pub flags-read : (i : ℕ) → i < size → v.flags i < 256 ^ 2 → number_at (12 + 16 * i) 2 (image size v) ≡ v.flags i
  flags-read i low fits = table-there [] (head ++ (entries ++ tail)) (descriptor v) 16 size i (12 + 16 * i) 2 (v.flags i) (little_bytes 8 (v.addr i) ++ little_bytes 4 (v.len i)) (little_bytes 2 (v.next i))
      low (λ j. refl) refl (omega arith) fits

  pub next-read : (i : ℕ) → i < size → v.next i < 256 ^ 2 → number_at (14 + 16 * i) 2 (image size v) ≡ v.next i
  next-read i low fits = table-there [] (head ++ (entries ++ tail)) (descriptor v) 16 size i (14 + 16 * i) 2 (v.next i) (little_bytes 8 (v.addr i) ++ (little_bytes 4 (v.len i) ++ little_bytes 2 (v.flags i))) []
      low (λ j. refl) refl (omega arith) fits

  pub avail-flags-read : v.avail_flags < 256 ^ 2 → number_at (16 * size) 2 (image size v) ≡ v.avail_flags
  avail-flags-read fits = number-there (image size v) descriptors (little_bytes 2 v.avail_idx ++ (entries ++ tail)) (16 * size) 2 v.avail_flags refl (sym descriptors-length) fits

  pub avail-idx-read : v.avail_idx < 256 ^ 2 → number_at (16 * size + 2) 2 (image size v) ≡ v.avail_idx
  avail-idx-read fits = let long = length-append descriptors (little_bytes 2 v.avail_flags) in let d = descriptors-length in
      number-there (image size v) (descriptors ++ little_bytes 2 v.avail_flags) (entries ++ tail) (16 * size + 2) 2 v.avail_idx
      (sym (append_assoc descriptors (little_bytes 2 v.avail_flags) (little_bytes 2 v.avail_idx ++ (entries ++ tail)))) (omega (arith, long, d)) fits

  pub avail-ring-read : (p : ℕ) → p < size → v.avail_ring p < 256 ^ 2 → number_at (16 * size + 4 + 2 * p) 2 (image size v) ≡ v.avail_ring p
  avail-ring-read p low fits = let long = length-append descriptors head in let d = descriptors-length in
      ap (number_at (16 * size + 4 + 2 * p) 2) (sym (append_assoc descriptors head (entries ++ tail)))
      ∙ table-there (descriptors ++ head) tail (offered_entry v) 2 size p (16 * size + 4 + 2 * p) 2 (v.avail_ring p) [] [] low (λ j. refl) refl (omega (arith, long, d)) fits

  pub used-event-read : number_at (18 * size + 4) 2 (image size v) ≡ 0
  used-event-read = later [] (0 ∷ 0 ∷ (little_bytes 2 v.used_flags ++ (little_bytes 2 v.used_idx ++ (elements ++ (0 ∷ 0 ∷ []))))) (18 * size + 4) 2 0 refl (omega arith) (omega arith)

  pub gap-read : number_at (18 * size + 6) 1 (image size v) ≡ 0
  gap-read = later (0 ∷ 0 ∷ []) (0 ∷ (little_bytes 2 v.used_flags ++ (little_bytes 2 v.used_idx ++ (elements ++ (0 ∷ 0 ∷ []))))) (18 * size + 6) 1 0 refl (omega arith) (omega arith)

  pub gap-end-read : number_at (18 * size + 6 + 1) 1 (image size v) ≡ 0
  gap-end-read = later (0 ∷ 0 ∷ 0 ∷ []) (little_bytes 2 v.used_flags ++ (little_bytes 2 v.used_idx ++ (elements ++ (0 ∷ 0 ∷ [])))) (18 * size + 6 + 1) 1 0 refl (omega arith) (omega arith)

  pub used-flags-read : v.used_flags < 256 ^ 2 → number_at (18 * size + 8) 2 (image size v) ≡ v.used_flags
  used-flags-read fits = later (0 ∷ 0 ∷ 0 ∷ 0 ∷ []) (little_bytes 2 v.used_idx ++ (elements ++ (0 ∷ 0 ∷ []))) (18 * size + 8) 2 v.used_flags refl (omega arith) fits

  pub used-idx-read : v.used_idx < 256 ^ 2 → number_at (18 * size + 10) 2 (image size v) ≡ v.used_idx
  used-idx-read fits = later (0 ∷ 0 ∷ 0 ∷ 0 ∷ little_bytes 2 v.used_flags) (elements ++ (0 ∷ 0 ∷ [])) (18 * size + 10) 2 v.used_idx refl (omega arith) fits

  -- flags and idx of the used ring, and the four bytes before them
  abbrev used_head : List ℕ
  used_head = 0 ∷ 0 ∷ 0 ∷ 0 ∷ (little_bytes 2 v.used_flags ++ little_bytes 2 v.used_idx)

  element-there : (p place w x : ℕ) (front back : List ℕ) → p < size → used_element v p ≡ front ++ (little_bytes w x ++ back) → place ≡ 18 * size + 12 + 8 * p + length front → x < 256 ^ w → number_at place w (image size v) ≡ x
  element-there p place w x front back low piece here fits = let long = behind-length used_head in
      ap (number_at place w) (behind descriptors head entries used_head (elements ++ (0 ∷ 0 ∷ [])))
      ∙ table-there (descriptors ++ (head ++ (entries ++ used_head))) (0 ∷ 0 ∷ []) (used_element v) 8 size p place w x front back low (λ j. refl) piece (omega (arith, here, long)) fits

  pub used-id-read : (p : ℕ) → p < size → v.used_id p < 256 ^ 4 → number_at (18 * size + 12 + 8 * p) 4 (image size v) ≡ v.used_id p
  used-id-read p low fits = element-there p (18 * size + 12 + 8 * p) 4 (v.used_id p) [] (little_bytes 4 (v.used_len p)) low refl (omega arith) fits

  pub used-len-read : (p : ℕ) → p < size → v.used_len p < 256 ^ 4 → number_at (18 * size + 16 + 8 * p) 4 (image size v) ≡ v.used_len p
  used-len-read p low fits = element-there p (18 * size + 16 + 8 * p) 4 (v.used_len p) (little_bytes 4 (v.used_id p)) [] low refl (omega arith) fits

  pub avail-event-read : number_at (26 * size + 12) 2 (image size v) ≡ 0
  avail-event-read = let long = elements-length in let more = length-append used_head elements in
      later (used_head ++ elements) [] (26 * size + 12) 2 0 refl (omega (arith, long, more)) (omega arith)
