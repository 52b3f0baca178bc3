-- The ends of a lane over a ring keep, when it is opened, what they are to keep.
use Rattle.std.proofs.Common.{◌≡◌, ℕ, zero, suc, ◌^◌, ◌+◌, ◌≤◌, List, [], ◌∷◌, length, take, refl, ap, ◌∙◌, arith}
use Rattle.std.specs.Prelude.{map}
use Rattle.std.specs.List.{range_with_len}
use Rattle.std.proofs.lemmas.List.{length-map}
use Rattle.std.proofs.Math.Nat.{pow-le-pow_right}
use Rattle.mc_base.specs.Limits.{ring_limit, buffer_size}
use Rattle.mc_base.specs.Stored.{Stored}
use Rattle.shared_words.specs.Entry.{times}
use Rattle.shared_words.specs.Shape.{IsRingSize}
use Rattle.shared_words.specs.Slots.{numbers_from}
use Rattle.shared_words.specs.Start.{new_buffer}
use Rattle.shared_words.specs.Shown.{TableShown, RingId, size_of}
use Rattle.shared_words.specs.declared.view.Role.TheVariants.{Driver, Device}
use Rattle.split_ring.specs.Ends.{End, new_end, IsSound}
use Rattle.lane_end.specs.Held.{numbers_of}
use Rattle.lane_end.specs.Numbers.{often, inside, all_numbers}
use Rattle.lane_end.specs.Entries.{numbers_in}
use Rattle.lane_end.specs.RingOpening.{new_buffers, whole, primed_driver, primed_device, queue1_sender, queue0_sender, queue0_receiver}
use Rattle.lane_end.specs.KeptRing.{sender_with, KeepsSender, KeepsReceiver}
use Rattle.lane_end.proofs.CountLemmas.{often-all}
use Rattle.lane_end.proofs.EntryLemmas.{times-often}

first-numbers : (width j n : ℕ) → numbers_of (map (new_buffer width) (numbers_from j n)) ≡ range_with_len j n
first-numbers width j zero = refl
first-numbers width j (suc n) = let e : suc j ≡ j + 1 = omega arith in ap (λ (l : List ℕ). j ∷ l) (first-numbers width (suc j) n ∙ ap (λ (k : ℕ). range_with_len k n) e)

pub new-numbers : (ring : RingId) → numbers_of (new_buffers ring) ≡ all_numbers (size_of ring)
new-numbers ring = first-numbers ring.width 0 (size_of ring)

pub whole-numbers : (buffers : List Stored) → numbers_in (whole buffers) ≡ numbers_of buffers
whole-numbers [] = refl
whole-numbers (b ∷ bs) = ap (λ (l : List ℕ). b.number ∷ l) (whole-numbers bs)

pub whole-length : (buffers : List Stored) → length (whole buffers) ≡ length buffers
whole-length bs = length-map bs (λ (b : Stored). (b, length b.bytes))

range-length : (j n : ℕ) → length (range_with_len j n) ≡ n
range-length j zero = refl
range-length j (suc n) = let h = range-length (j + 1) n in omega (arith, h)

pub new-length : (ring : RingId) → length (new_buffers ring) ≡ size_of ring
new-length ring =
    let n = ap (λ (l : List ℕ). length l) (new-numbers ring) in let m = length-map (new_buffers ring) (λ (b : Stored). b.number) in
    let r = range-length 0 (size_of ring) in omega (arith, n, m, r)

whole-times : (ring : RingId) (x : ℕ) → times x (whole (new_buffers ring)) ≡ inside (size_of ring) x
whole-times ring x = times-often x (whole (new_buffers ring)) ∙ (ap (often x) (whole-numbers (new_buffers ring) ∙ new-numbers ring) ∙ often-all (size_of ring) x)

pub whole-new : (ring : RingId) → length (whole (new_buffers ring)) ≡ size_of ring
whole-new ring = whole-length (new_buffers ring) ∙ new-length ring

take-whole : {A : Type 0} (n : ℕ) (xs : List A) → length xs ≡ n → take n xs ≡ xs
take-whole {A} zero [] e = refl
take-whole {A} (suc n) [] e = refl
take-whole {A} zero (x ∷ xs) e = absurd (omega (arith, e))
take-whole {A} (suc n) (x ∷ xs) e = ap (λ (l : List A). x ∷ l) (take-whole n xs (omega (arith, e)))

pub size-small : (size : ℕ) → IsRingSize size → size ≤ ring_limit
size-small size (k, low, high, is) = let p : 2 ^ k ≤ 2 ^ 15 = pow-le-pow_right (omega arith) high in omega (arith, is, p)

module _ (on : TableShown) (width : on.ring.width ≡ buffer_size) where
  pub queue1-sends : (capacity : ℕ) → IsRingSize (size_of on.ring) → size_of on.ring ≤ capacity → IsSound Driver (queue1_sender on.ring).half → KeepsSender on capacity (queue1_sender on.ring)
  queue1-sends capacity size room sound = record {
    ring = refl;
    width = width;
    sound = sound;
    held = λ x. let o = often-all (size_of on.ring) x in omega (arith, o);
    count = let r = range-length 0 (size_of on.ring) in omega (arith, r);
    sender = refl;
    small = size-small (size_of on.ring) size;
    room = room;
  }

  pub queue0-sends : (capacity : ℕ) → IsRingSize (size_of on.ring) → size_of on.ring ≤ capacity → IsSound Device (queue0_sender on.ring).half → KeepsSender on capacity (queue0_sender on.ring)
  queue0-sends capacity size room sound = record {
    ring = refl;
    width = width;
    sound = sound;
    held = λ x. let o = often-all (size_of on.ring) x in let w = whole-times on.ring x in omega (arith, o, w);
    count = let r = range-length 0 (size_of on.ring) in let w = whole-new on.ring in omega (arith, r, w);
    sender = let w = whole-new on.ring in omega (arith, w);
    small = size-small (size_of on.ring) size;
    room = room;
  }

  pub queue0-receives : IsSound Driver (queue0_receiver on.ring).half → KeepsReceiver on (queue0_receiver on.ring)
  queue0-receives sound = record {
    ring = refl;
    width = width;
    sound = sound;
    first = λ x. ap (times x) (take-whole (size_of on.ring) (whole (new_buffers on.ring)) (whole-new on.ring)) ∙ whole-times on.ring x;
    receiver = record { shown = omega arith; opened = let w = whole-new on.ring in omega (arith, w) };
  }

module _ (ring : RingId) where
  pub queue1-is : (driver : End) (buffers : List Stored) → driver ≡ new_end ring → buffers ≡ new_buffers ring → sender_with Driver driver buffers ≡ queue1_sender ring
  queue1-is driver buffers half all = λ i. record { role = Driver; half = half i; free = (ap numbers_of all ∙ new-numbers ring) i }

  pub primed-is : (device : End) (before : List Stored) → before ≡ new_buffers ring → device ≡ primed_device ring before (length before) → device ≡ primed_device ring (new_buffers ring) (size_of ring)
  primed-is device before all half = half ∙ (λ i. primed_device ring (all i) ((ap (λ (l : List Stored). length l) all ∙ new-length ring) i))

  pub queue0-is : (device : End) (before after : List Stored) → before ≡ new_buffers ring → numbers_of after ≡ numbers_of before → device ≡ primed_device ring before (length before) → sender_with Device device after ≡ queue0_sender ring
  queue0-is device before after all same half = λ i. record { role = Device; half = primed-is device before all half i; free = (same ∙ (ap numbers_of all ∙ new-numbers ring)) i }

  pub offered-is : (driver : End) (before : List Stored) → before ≡ new_buffers ring → driver ≡ primed_driver ring before → driver ≡ primed_driver ring (new_buffers ring)
  offered-is driver before all half = half ∙ ap (primed_driver ring) all
