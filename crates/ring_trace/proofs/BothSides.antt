-- The writes of both sides, in either order, and the words of a finished ring.
use Rattle.std.proofs.Common.{◌≡◌, ◌∙◌, ◌<◌, ◌+◌, ◌*◌, ◌%◌, ℕ, List, ◌++◌, length, map, refl, sym, ap, subst, arith}
use Rattle.std.specs.List.{All}
use Rattle.mc_base.specs.Limits.{buffer_size}
use Rattle.shared_words.specs.Entry.{Entry, number_of}
use Rattle.shared_words.specs.Closed.{AreFinal}
use Rattle.shared_words.specs.Shown.{shape_of}
use Rattle.shared_words.proofs.WordLemmas.{size_facts}
use Rattle.split_ring.specs.Ends.{End}
use Rattle.shared_words.specs.declared.rule.Shape.{Shape}
use Rattle.shared_words.specs.declared.field.Field.TheVariants.{DescAddr, DescLen, DescFlags, DescNext, AvailFlags, AvailIdx, AvailRing, UsedFlags, UsedIdx, UsedId, UsedLen}
use Rattle.board_model.specs.RingImage.{Values, image, start_values, start_image, driver_writes, device_writes, all_written}
use Rattle.ring_trace.specs.WordImage.{values_in, word_image}
use Rattle.ring_trace.specs.BothSides.{offer_of, writes_of_driver, writes_of_device, BothSidesMakeTheImage}
use Rattle.ring_trace.proofs.SameImage.{Agree, same_image}
use Rattle.ring_trace.proofs.SideWrites.{all_then, offered_on, returned_on, all_offered, all_returned}

module _ (key : Shape) (offered returned : List Entry) (words : List ℕ)
    (full : key.length ≡ buffer_size) (final : AreFinal key offered returned words)
    (low : All (λ (e : Entry). number_of e < key.size) offered) (some : 0 < key.size) where
  abbrev z : ℕ
  z = key.size

  abbrev start : Values
  start = start_values z key.queue

  abbrev at_end : Values
  at_end = returned_on z (offered_on z start 0 offered) 0 returned

  from-none : (n : ℕ) → (0 + n) % 65536 ≡ n % 65536
  from-none n = ap (λ k. k % 65536) (let h : 0 + n ≡ n = omega arith in h)

  same-as-words : Agree z at_end (values_in z words)
  same-as-words = record {
    addr = λ i h. ap (λ k. k * (key.queue * z + i)) (sym full) ∙ sym (final.each (DescAddr i) h);
    len = λ i h. sym (final.each (DescLen i) h);
    flags = λ i h. sym (final.each (DescFlags i) h);
    next = λ i h. sym (final.each (DescNext i) h);
    avail_flags = sym (final.each AvailFlags tt);
    avail_idx = from-none (length offered) ∙ sym (final.each AvailIdx tt);
    avail_ring = λ p h. sym (final.each (AvailRing p) h);
    used_flags = sym (final.each UsedFlags tt);
    used_idx = from-none (length returned) ∙ sym (final.each UsedIdx tt);
    used_id = λ p h. sym (final.each (UsedId p) h);
    used_len = λ p h. sym (final.each (UsedLen p) h);
  }

  sized : All (λ (e : Entry). 0 < key.size) returned
  sized k d h = some

  pub driver_first : all_written (start_image z key.queue) (driver_writes z (map offer_of offered) ++ device_writes z (map offer_of returned)) ≡ word_image z words
  driver_first =
      all_then (image z start) (driver_writes z (map offer_of offered)) (device_writes z (map offer_of returned))
      ∙ (ap (λ l. all_written l (device_writes z (map offer_of returned))) (all_offered z start 0 offered refl low)
      ∙ (all_returned z (offered_on z start 0 offered) 0 returned refl sized
      ∙ same_image z at_end (values_in z words) same-as-words))

  pub device_first : all_written (start_image z key.queue) (device_writes z (map offer_of returned) ++ driver_writes z (map offer_of offered)) ≡ word_image z words
  device_first =
      all_then (image z start) (device_writes z (map offer_of returned)) (driver_writes z (map offer_of offered))
      ∙ (ap (λ l. all_written l (driver_writes z (map offer_of offered))) (all_returned z start 0 returned refl sized)
      ∙ (all_offered z (returned_on z start 0 returned) 0 offered refl low
      ∙ same_image z at_end (values_in z words) same-as-words))

-- the law, at a size and a queue
abbrev Both : ℕ → ℕ → End → End → List ℕ → Type 0
Both z queue driver device words =
    (all_written (start_image z queue) (writes_of_driver z driver ++ writes_of_device z device) ≡ word_image z words)
    × (all_written (start_image z queue) (writes_of_device z device ++ writes_of_driver z driver) ≡ word_image z words)

pub both_sides : BothSidesMakeTheImage
both_sides ring driver device closed finished full =
    subst (λ queue. Both closed.size queue driver device closed.words) (sym finished.queue)
    (subst (λ z. Both z ring.queue driver device closed.words) (sym finished.size) at_size)
  where
    key : Shape
    key = shape_of ring

    some : 0 < key.size
    some = let two = size_facts key.size finished.shape.size in omega (arith, two)

    below : All (λ (e : Entry). number_of e < key.size) driver.written
    below = λ k d h. (finished.offered_fit k d h).0

    at_size : Both key.size ring.queue driver device closed.words
    at_size = (
      driver_first key driver.written device.written closed.words (sym finished.width ∙ full) finished.all_words below some,
      device_first key driver.written device.written closed.words (sym finished.width ∙ full) finished.all_words below some,
    )
