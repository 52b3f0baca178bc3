-- The numbers of the buffers of a lane are below its size; and an image has some bytes.
use Rattle.std.proofs.Common.{◌≡◌, ℕ, zero, suc, ◌+◌, ◌<◌, ◌≤◌, List, [], ◌∷◌, ◌++◌, length, map, take, get_or, Option, Some, None, refl, arith, length-append}
use Rattle.std.specs.Prelude.{slice_get}
use Rattle.std.specs.List.{AllByRecursion, range_with_len}
use Rattle.board_model.specs.RingImage.{Offer, ImageWrite, write, written, all_written, start_image, for_each, descriptor, start_values}
use Rattle.board_model.proofs.MessageAlls.{all-append, all-at, all-drop}
use Rattle.ring_numbers.specs.SenderNumbers.{Numbers, Sending, puts, comes_back, at_start, number_in, number_at, put_in, after_sending, after_all}

range-below : (a n size : ℕ) → a + n ≤ size → AllByRecursion (λ k. k < size) (range_with_len a n)
range-below a zero size fits = tt
range-below a (suc n) size fits = (omega (arith, fits), range-below (a + 1) n size (omega (arith, fits)))

module _ (size : ℕ) (some : 0 < size) where
  abbrev AreBelow : List ℕ → Type 0
  AreBelow ns = AllByRecursion (λ k. k < size) ns

  abbrev UsedBelow : List Offer → Type 0
  UsedBelow used = AllByRecursion (λ e. e.0 < size) used

  number-below : (used : List Offer) → UsedBelow used → (place : ℕ) → number_at used place < size
  number-below used all place = go (slice_get used place) refl
    where
      go : (o : Option Offer) → slice_get used place ≡ o → number_in o < size
      go None at = some
      go (Some e) at = all-at (λ (x : Offer). x.0 < size) used place e all at

  numbers-below : (used : List Offer) → UsedBelow used → (places : List ℕ) → AreBelow (map (number_at used) places)
  numbers-below used all [] = tt
  numbers-below used all (p ∷ ps) = (number-below used all p, numbers-below used all ps)

  put-below : (free : List ℕ) (bytes : ℕ) → AreBelow free → UsedBelow (put_in free bytes)
  put-below [] bytes all = tt
  put-below (n ∷ ns) bytes all = (all.0, tt)

  all-below : (n : Numbers) (es : List Sending) → AreBelow n.free → UsedBelow n.used → UsedBelow (after_all n es).used
  all-below n [] free used = used
  all-below n (puts bytes ∷ es) free used =
      all-below (after_sending n (puts bytes)) es (all-drop (λ k. k < size) 1 n.free free) (all-append (λ (e : Offer). e.0 < size) n.used (put_in n.free bytes) used (put-below n.free bytes free))
  all-below n (comes_back count ∷ es) free used =
      all-below (after_sending n (comes_back count)) es (all-append (λ k. k < size) n.free (map (number_at n.used) (take count n.given)) free (numbers-below n.used used (take count n.given))) used

  pub used-below : (given : List ℕ) (es : List Sending) → AllByRecursion (λ e. e.0 < size) (after_all (at_start size given) es).used
  used-below given es = all-below (at_start size given) es (range-below 0 size size (omega arith)) tt

-- what holds of all holds at each place
pub all-places : {A : Type 0} (P : A → Type 0) (xs : List A) → AllByRecursion P xs → (k : ℕ) (d : A) → k < length xs → P (get_or xs k d)
all-places P [] all k d within = absurd (omega (arith, within))
all-places P (x ∷ xs) all zero d within = all.0
all-places P (x ∷ xs) all (suc k) d within = all-places P xs all.1 k d (omega (arith, within))

-- ---- images

longer : (xs ys : List ℕ) → 0 < length ys → 0 < length (xs ++ ys)
longer xs ys some = omega (arith, length-append xs ys, some)

written-some : (bytes : List ℕ) (offset width value : ℕ) → 0 < length bytes → 0 < length (written bytes (write offset width value))
written-some [] offset width value some = absurd (omega (arith, some))
written-some (b ∷ bs) (suc o) width value some = omega arith
written-some (b ∷ bs) zero (suc w) value some = omega arith
written-some (b ∷ bs) zero zero value some = omega arith

pub all-written-some : (bytes : List ℕ) (ws : List ImageWrite) → 0 < length bytes → 0 < length (all_written bytes ws)
all-written-some bytes [] some = some
all-written-some bytes (w ∷ ws) some = all-written-some (written bytes w) ws (written-some bytes w.offset w.width w.value some)

pub start-some : (size queue : ℕ) → 0 < length (start_image size queue)
start-some size queue = longer (for_each (descriptor (start_values size queue)) size) _ (omega arith)
