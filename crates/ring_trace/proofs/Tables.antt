-- A field of a table written: what stands before it and after it stays.
use Rattle.std.proofs.Common.{◌≡◌, ◌≢◌, ◌∙◌, ◌<◌, ◌≤◌, ◌+◌, ◌*◌, ◌-◌, ℕ, zero, suc, List, [], ◌∷◌, ◌++◌, length, take, drop, refl, sym, ap, append_assoc, length-append, arith}
use Rattle.std.specs.List.{flat_map, range_with_len}
use Rattle.std.proofs.Math.Seq.{take-append_seam, drop-append-add}
use Rattle.std.proofs.lemmas.Grind.{flat_map-append}
use Rattle.byteorder.specs.Endian.{little_bytes}
use Rattle.board_model.specs.RingImage.{Values, image, image_length, descriptor, offered_entry, used_element, for_each, write, written}
use Rattle.ring_trace.proofs.Firsts.{below-split}

-- bytes with new ones in the place of old ones
pub put-between : (a b c : List ℕ) (w at x : ℕ) → at ≡ length a → w ≡ length b → written (a ++ (b ++ c)) (write at w x) ≡ a ++ (little_bytes w x ++ c)
put-between a b c w at x here many =
    let front : take at (a ++ (b ++ c)) ≡ a = ap (λ k. take k (a ++ (b ++ c))) here ∙ take-append_seam a (b ++ c) in
    let seam : length (a ++ b) ≡ at + w = length-append a b ∙ (let h = here in let m = many in omega (arith, h, m)) in
    let back : drop (at + w) (a ++ (b ++ c)) ≡ c = ap (λ k. drop k (a ++ (b ++ c))) (sym seam) ∙ (ap (drop (length (a ++ b))) (sym (append_assoc a b c)) ∙ behind (a ++ b) c) in
    ap (λ l. l ++ (little_bytes w x ++ drop (at + w) (a ++ (b ++ c)))) front ∙ ap (λ l. a ++ (little_bytes w x ++ l)) back
  where
    behind : (xs ys : List ℕ) → drop (length xs) (xs ++ ys) ≡ ys
    behind xs ys = Rattle.std.proofs.Math.Seq.drop-append_seam xs ys

-- the same for all numbers in a row
pub same-row : (f g : ℕ → List ℕ) (a n : ℕ) → ((j : ℕ) → a ≤ j → j < a + n → f j ≡ g j) → flat_map f (range_with_len a n) ≡ flat_map g (range_with_len a n)
same-row f g a zero same = refl
same-row f g a (suc n) same =
    let here : f a ≡ g a = same a (omega arith) (omega arith) in
    let more = same-row f g (a + 1) n (λ j low high. same j (omega (arith, low)) (omega (arith, high))) in
    ap (λ l. l ++ flat_map f (range_with_len (a + 1) n)) here ∙ ap (λ l. g a ++ l) more

-- pieces of one length
pub row-length : (f : ℕ → List ℕ) (k a n : ℕ) → ((j : ℕ) → length (f j) ≡ k) → length (flat_map f (range_with_len a n)) ≡ k * n
row-length f k a zero long = omega arith
row-length f k a (suc n) long =
    let here = long a in
    let more = row-length f k (a + 1) n long in
    length-append (f a) (flat_map f (range_with_len (a + 1) n)) ∙ (let p : k * suc n ≡ k + k * n = omega arith in omega (arith, here, more, p))

-- a table, split around the piece of one number
pub around : (f : ℕ → List ℕ) (i n : ℕ) → i < n → for_each f n ≡ for_each f i ++ (f i ++ flat_map f (range_with_len (i + 1) (n - (i + 1))))
around f i n h = ap (flat_map f) (below-split i n h) ∙ flat_map-append f (range_with_len 0 i) (i ∷ range_with_len (i + 1) (n - (i + 1)))

-- two tables that differ in the piece of one number
pub changed-table : (f g : ℕ → List ℕ) (i n : ℕ) → i < n → ((j : ℕ) → j ≢ i → f j ≡ g j) → for_each g n ≡ for_each f i ++ (g i ++ flat_map f (range_with_len (i + 1) (n - (i + 1))))
changed-table f g i n h same =
    let before : for_each f i ≡ for_each g i = same-row f g 0 i (λ j low high. same j (λ e. omega (arith, e, high))) in
    let after : flat_map f (range_with_len (i + 1) (n - (i + 1))) ≡ flat_map g (range_with_len (i + 1) (n - (i + 1))) = same-row f g (i + 1) (n - (i + 1)) (λ j low high. same j (λ e. omega (arith, e, low))) in
    around g i n h ∙ (ap (λ l. l ++ (g i ++ flat_map g (range_with_len (i + 1) (n - (i + 1))))) (sym before) ∙ ap (λ l. for_each f i ++ (g i ++ l)) (sym after))

-- the length of an image
pub image_has_length : (size : ℕ) (v : Values) → length (image size v) ≡ image_length size
image_has_length size v =
    let a = row-length (descriptor v) 16 0 size (λ j. refl) in
    let b = row-length (offered_entry v) 2 0 size (λ j. refl) in
    let c = row-length (used_element v) 8 0 size (λ j. refl) in
    let used : List ℕ = little_bytes 2 v.used_flags ++ (little_bytes 2 v.used_idx ++ (for_each (used_element v) size ++ (0 ∷ 0 ∷ []))) in
    let offered : List ℕ = little_bytes 2 v.avail_flags ++ (little_bytes 2 v.avail_idx ++ (for_each (offered_entry v) size ++ (0 ∷ 0 ∷ 0 ∷ 0 ∷ used))) in
    let e1 = length-append (for_each (descriptor v) size) offered in
    let e2 = length-append (for_each (offered_entry v) size) (0 ∷ 0 ∷ 0 ∷ 0 ∷ used) in
    let e3 = length-append (for_each (used_element v) size) (0 ∷ 0 ∷ []) in
    omega (arith, a, b, c, e1, e2, e3)
