-- What the two halves of a ring wrote, as pairs of a number and a length.
use Rattle.std.proofs.Common.{◌≡◌, ℕ, zero, suc, ◌+◌, List, [], ◌∷◌, ◌++◌, map, refl, ap, ◌∙◌, arith}
use Rattle.std.specs.List.{range_with_len}
use Rattle.std.proofs.lemmas.List.{length-replicate}
use Rattle.board_model.specs.RingImage.{Offer}
use Rattle.shared_words.specs.Entry.{Entry, number_of}
use Rattle.shared_words.specs.Shown.{RingId, size_of}
use Rattle.shared_words.specs.Slots.{numbers_from}
use Rattle.shared_words.specs.Start.{new_buffer}
use Rattle.lane_end.specs.Entries.{lengths_in, numbers_in, returns_in}
use Rattle.lane_end.specs.RingOpening.{whole, new_buffers}
use Rattle.ring_numbers.specs.RingLists.{all_with, given_with}
use Rattle.lane_images.proofs.Dealt.{numbers, lengths, number-there}
use Rattle.lane_images.proofs.Early.{Early}

pub pairs-same : (os ps : List Offer) → numbers os ≡ numbers ps → lengths os ≡ lengths ps → os ≡ ps
pairs-same [] [] e f = refl
pairs-same [] (p ∷ ps) e f = absurd cc
pairs-same (o ∷ os) [] e f = absurd cc
pairs-same (o ∷ os) (p ∷ ps) e f =
    let one : o.0 ≡ p.0 = cc in let two : o.1 ≡ p.1 = cc in
    let more : numbers os ≡ numbers ps = cc in let long : lengths os ≡ lengths ps = cc in
    let h = pairs-same os ps more long in λ i. (one i, two i) ∷ h i

pub numbers-returned : (es : List Entry) → numbers (returns_in es) ≡ numbers_in es
numbers-returned [] = refl
numbers-returned (e ∷ es) = ap (λ (l : List ℕ). number_of e ∷ l) (numbers-returned es)

pub lengths-returned : (es : List Entry) → lengths (returns_in es) ≡ lengths_in es
lengths-returned [] = refl
lengths-returned (e ∷ es) = ap (λ (l : List ℕ). e.1 ∷ l) (lengths-returned es)

-- the buffers that are given back, by their places and by their numbers
pub given-same : (bytes : ℕ) (used : List Offer) (before places given : List ℕ) → Early (numbers used) before places given → given_with bytes used places ≡ map (λ (n : ℕ). (n, bytes)) given
given-same bytes used before [] [] e = refl
given-same bytes used before [] (n ∷ given) e = absurd e
given-same bytes used before (place ∷ places) [] e = absurd e
given-same bytes used before (place ∷ places) (n ∷ given) e = λ i. (number-there used place n e.0 i, bytes) ∷ given-same bytes used (before ++ n ∷ []) places given e.2 i

first-whole : (width j n : ℕ) → returns_in (whole (map (new_buffer width) (numbers_from j n))) ≡ map (λ (k : ℕ). (k, width)) (range_with_len j n)
first-whole width j zero = refl
first-whole width j (suc n) = let e : suc j ≡ j + 1 = omega arith in
    (λ i. (j, length-replicate {A = ℕ} width 0 i) ∷ (first-whole width (suc j) n ∙ ap (λ (k : ℕ). map (λ (m : ℕ). (m, width)) (range_with_len k n)) e) i)

-- what the driver of queue 0 offers before its lane is open
pub new-whole : (ring : RingId) → returns_in (whole (new_buffers ring)) ≡ all_with ring.width (size_of ring)
new-whole ring = first-whole ring.width 0 (size_of ring)
