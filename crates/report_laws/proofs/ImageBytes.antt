-- The image of a ring has bytes, and some.
use Rattle.std.proofs.Common.{◌≡◌, ℕ, zero, suc, ◌+◌, ◌<◌, ◌≤◌, Bool, true, false, cond, List, [], ◌∷◌, ◌++◌, length, take, drop, refl, sym, ap, subst, arith, length-append, length-take, length-drop}
use Rattle.std.specs.Prelude.{◌==◌}
use Rattle.std.specs.Int.{bytes_low_first}
use Rattle.std.specs.List.{range_with_len}
use Rattle.std.proofs.lemmas.List.{take-append-drop}
use Rattle.board_model.specs.declared.scenario.LinkLine.{LinkLine}
use Rattle.board_model.specs.declared.scenario.Scenario.{Scenario}
use Rattle.board_model.specs.Board.{DomainJournal}
use Rattle.board_model.specs.RingImage.{Values, descriptor, offered_entry, used_element, for_each, image, start_values, start_image, ImageWrite, Offer, written, all_written, driver_writes, device_writes}
use Rattle.board_model.proofs.ListsApart.{all-joined}
use Rattle.board_model.proofs.ListsOne.{all-any}
use Rattle.board_model.proofs.MessageAlls.{all-parts}
use Rattle.mc_journal.specs.EntryText.{AreBytes}
use Rattle.ring_numbers.specs.BoardRings.{places_of, numbers_left, ring_left, image_of_queue}
use Rattle.ring_numbers.specs.RingLists.{image_left, offered, returned}
use Rattle.report_laws.proofs.FramesFit.{bytes-append, low-bytes}

abbrev IsByte : ℕ → Type 0
IsByte b = b < 256

abbrev pub IsImage : List ℕ → Type 0
IsImage bs = (1 ≤ length bs) × AreBytes bs

-- ---- the bytes of a number

number-length : (i n x : ℕ) → length (bytes_low_first i n x) ≡ n
number-length i zero x = refl
number-length i (suc n) x = ap suc (number-length (suc i) n x)

row-bytes : (f : ℕ → List ℕ) → ((n : ℕ) → AreBytes (f n)) → (size : ℕ) → AreBytes (for_each f size)
row-bytes f each size = all-joined IsByte f (range_with_len 0 size) (all-any (λ n. AreBytes (f n)) each (range_with_len 0 size))

-- ---- the image at the start

module _ (size : ℕ) (v : Values) where
  descriptor-bytes : (i : ℕ) → AreBytes (descriptor v i)
  descriptor-bytes i =
      bytes-append (bytes_low_first 0 8 (v.addr i)) (bytes_low_first 0 4 (v.len i) ++ (bytes_low_first 0 2 (v.flags i) ++ bytes_low_first 0 2 (v.next i))) (low-bytes 0 8 (v.addr i))
      (bytes-append (bytes_low_first 0 4 (v.len i)) (bytes_low_first 0 2 (v.flags i) ++ bytes_low_first 0 2 (v.next i)) (low-bytes 0 4 (v.len i))
      (bytes-append (bytes_low_first 0 2 (v.flags i)) (bytes_low_first 0 2 (v.next i)) (low-bytes 0 2 (v.flags i)) (low-bytes 0 2 (v.next i))))

  element-bytes : (p : ℕ) → AreBytes (used_element v p)
  element-bytes p = bytes-append (bytes_low_first 0 4 (v.used_id p)) (bytes_low_first 0 4 (v.used_len p)) (low-bytes 0 4 (v.used_id p)) (low-bytes 0 4 (v.used_len p))

  image-bytes : AreBytes (image size v)
  image-bytes =
      let last : List ℕ = for_each (used_element v) size ++ 0 ∷ 0 ∷ [] in
      let used : List ℕ = bytes_low_first 0 2 v.used_flags ++ (bytes_low_first 0 2 v.used_idx ++ last) in
      let entries : List ℕ = for_each (offered_entry v) size ++ 0 ∷ 0 ∷ 0 ∷ 0 ∷ used in
      let last_bytes : AreBytes last = bytes-append (for_each (used_element v) size) (0 ∷ 0 ∷ []) (row-bytes (used_element v) element-bytes size) (omega arith, (omega arith, tt)) in
      let used_bytes : AreBytes used =
      bytes-append (bytes_low_first 0 2 v.used_flags) (bytes_low_first 0 2 v.used_idx ++ last) (low-bytes 0 2 v.used_flags) (bytes-append (bytes_low_first 0 2 v.used_idx) last (low-bytes 0 2 v.used_idx) last_bytes) in
      let entry_bytes : AreBytes entries =
      bytes-append (for_each (offered_entry v) size) (0 ∷ 0 ∷ 0 ∷ 0 ∷ used) (row-bytes (offered_entry v) (λ p. low-bytes 0 2 (v.avail_ring p)) size) (omega arith, (omega arith, (omega arith, (omega arith, used_bytes)))) in
      bytes-append (for_each (descriptor v) size) (bytes_low_first 0 2 v.avail_flags ++ (bytes_low_first 0 2 v.avail_idx ++ entries)) (row-bytes (descriptor v) descriptor-bytes size)
      (bytes-append (bytes_low_first 0 2 v.avail_flags) (bytes_low_first 0 2 v.avail_idx ++ entries) (low-bytes 0 2 v.avail_flags) (bytes-append (bytes_low_first 0 2 v.avail_idx) entries (low-bytes 0 2 v.avail_idx) entry_bytes))

  image-some : 1 ≤ length (image size v)
  image-some =
      let last : List ℕ = for_each (used_element v) size ++ 0 ∷ 0 ∷ [] in
      let entries : List ℕ = for_each (offered_entry v) size ++ 0 ∷ 0 ∷ 0 ∷ 0 ∷ (bytes_low_first 0 2 v.used_flags ++ (bytes_low_first 0 2 v.used_idx ++ last)) in
      let behind : List ℕ = bytes_low_first 0 2 v.avail_flags ++ (bytes_low_first 0 2 v.avail_idx ++ entries) in
      omega (arith, length-append (for_each (descriptor v) size) behind)

-- ---- and after writes

written-image : (bs : List ℕ) (w : ImageWrite) → IsImage bs → IsImage (written bs w)
written-image bs w is =
    let front : List ℕ = take w.offset bs in
    let new : List ℕ = bytes_low_first 0 w.width w.value in
    let back : List ℕ = drop (w.offset + w.width) bs in
    let halves = all-parts IsByte front (drop w.offset bs) (subst AreBytes (sym (take-append-drop w.offset bs)) is.1) in
    let ends = all-parts IsByte (take (w.offset + w.width) bs) back (subst AreBytes (sym (take-append-drop (w.offset + w.width) bs)) is.1) in (
      omega (arith, is.0, length-append front (new ++ back), length-append new back, length-take w.offset bs, number-length 0 w.width w.value, length-drop (w.offset + w.width) bs),
      bytes-append front (new ++ back) halves.0 (bytes-append new back (low-bytes 0 w.width w.value) ends.1),
    )

all-written-image : (bs : List ℕ) (ws : List ImageWrite) → IsImage bs → IsImage (all_written bs ws)
all-written-image bs [] is = is
all-written-image bs (w ∷ ws) is = all-written-image (written bs w) ws (written-image bs w is)

left-image : (size queue : ℕ) (used : List Offer) (given : List ℕ) → IsImage (image_left size queue used given)
left-image size queue used given =
    all-written-image (start_image size queue) (driver_writes size (offered size queue used given) ++ device_writes size (returned queue used given)) (image-some size (start_values size queue), image-bytes size (start_values size queue))

ring-image : (s : Scenario) (js : List DomainJournal) (queue sender receiver size : ℕ) → IsImage (ring_left s js queue sender receiver size)
ring-image s js queue sender receiver size = left-image size queue (numbers_left s js sender receiver size).used (places_of s js receiver sender)

pub queue-image : (s : Scenario) (js : List DomainJournal) (l : LinkLine) (queue : ℕ) → IsImage (image_of_queue s js l queue)
queue-image s js l queue = go (queue == 0)
  where
    go : (b : Bool) → IsImage (cond b (ring_left s js 0 l.device l.driver l.size) (ring_left s js 1 l.driver l.device l.size))
    go true = ring-image s js 0 l.device l.driver l.size
    go false = ring-image s js 1 l.driver l.device l.size
