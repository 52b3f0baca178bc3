-- No fault in the image of a finished ring.
use Rattle.std.proofs.Common.{◌≡◌, ⊎_elim, ◌∙◌, ◌<◌, ◌≤◌, ◌+◌, ◌*◌, ◌-◌, ◌%◌, ◌^◌, ℕ, zero, suc, Bool, true, false, cond, List, [], ◌∷◌, ◌++◌, find, None, Some, Ok, option_map, length, refl, sym, ap, subst, length-append, le-ltb, arith}
use Rattle.std.specs.Prelude.{◌==◌}
use Rattle.std.specs.List.{All, flat_map, range_with_len}
use Rattle.std.specs.Option.{option_or}
use Rattle.std.proofs.Math.Pow.{pow_mono}
use Rattle.std.proofs.lemmas.Bool.{cases_lt}
use Rattle.std.proofs.lemmas.List.Folds.{find-append}
use Rattle.std.proofs.lemmas.List.Concat.{flat_map_single}
use Rattle.mc_base.specs.Limits.{buffer_size, link_limit}
use Rattle.mc_base.specs.Bytes.{number_at}
use Rattle.shared_words.specs.Entry.{Entry, number_of}
use Rattle.shared_words.specs.Shape.{IsShape}
use Rattle.shared_words.specs.Shown.{shape_of}
use Rattle.shared_words.specs.Closed.{AreFinal}
use Rattle.shared_words.specs.LastEntries.{last_from}
use Rattle.shared_words.specs.declared.rule.Shape.{Shape}
use Rattle.shared_words.specs.declared.field.Field.TheVariants.{DescAddr, DescLen, DescFlags, DescNext, AvailFlags, AvailIdx, AvailRing, UsedFlags, UsedIdx, UsedId, UsedLen}
use Rattle.shared_words.proofs.WayLemmas.{ahead_is}
use Rattle.shared_words.proofs.WordLemmas.{size_facts}
use Rattle.shared_words.specs.Constants.{IsLawful}
use Rattle.board_model.specs.RingImage.{Values, image_length, buffer_address, buffer_flags, desc_addr_at, desc_len_at, desc_flags_at, desc_next_at, avail_ring_at, used_id_at, used_len_at}
use Rattle.ring_trace.specs.declared.checking.ImageFault.TheVariants.{Constant, IdxAhead, IdRange, LenRange}
use Rattle.ring_trace.specs.ImageFaults.{Rule, is_broken, exactly, at_most, first_broken, descriptor_constants, ring_constants, constants, rules_of_column, offered_ids, used_ids, ids, desc_lens, used_lens, lens, avail_idx, used_idx, ahead, idx_place, with_fault, first_of, faults, size_of_length, queue_of_flags, info, unless_fault, checked_queue, checked_size, checked}
use Rattle.ring_trace.specs.WordImage.{values_in, word_image}
use Rattle.ring_trace.specs.SoundImages.{IsOfLink, ReturnsAreEmpty, FinishedImagesAreSound, FinishedImagesAreShort}
use Rattle.ring_trace.proofs.Tables.{image_has_length}
use Rattle.ring_trace.proofs.FieldReads as reads

-- Rules that are kept

kept : (bytes : List ℕ) (place width least most : ℕ) → least ≤ number_at place width bytes → number_at place width bytes ≤ most
    → find (is_broken bytes) (record { place = place; width = width; least = least; most = most } ∷ []) ≡ None
kept bytes place width least most low high = grind (arith, low, high)

-- a constant
same : (bytes : List ℕ) (place width n : ℕ) → number_at place width bytes ≡ n → find (is_broken bytes) (exactly place width n ∷ []) ≡ None
same bytes place width n is = kept bytes place width n n (omega (arith, is)) (omega (arith, is))

under : (bytes : List ℕ) (place width most : ℕ) → number_at place width bytes ≤ most → find (is_broken bytes) (at_most place width most ∷ []) ≡ None
under bytes place width most low = kept bytes place width 0 most (omega arith) low

module _ {X : Type 0} (p : X → Bool) where
  none-of : (xs ys : List X) → find p xs ≡ None → find p ys ≡ None → find p (xs ++ ys) ≡ None
  none-of xs ys a b = find-append p xs ys ∙ (λ i. option_or (a i) (b i))

  none-in-row : (f : ℕ → List X) (a n : ℕ) → ((j : ℕ) → j < a + n → find p (f j) ≡ None) → find p (flat_map f (range_with_len a n)) ≡ None
  none-in-row f a zero none = refl
  none-in-row f a (suc n) none = none-of (f a) (flat_map f (range_with_len (a + 1) n)) (none a (omega arith)) (none-in-row f (a + 1) n (λ j low. none j (omega (arith, low))))

none-broken : (bytes : List ℕ) (rules : List Rule) → find (is_broken bytes) rules ≡ None → first_broken bytes rules ≡ None
none-broken bytes rules none = ap (option_map (λ (r : Rule). r.place)) none

-- a column of numbers that are small
column : (bytes : List ℕ) (place : ℕ → ℕ) (width most n : ℕ) → ((j : ℕ) → j < n → number_at (place j) width bytes ≤ most) → find (is_broken bytes) (rules_of_column place width most n) ≡ None
column bytes place width most n low = ap (find (is_broken bytes)) (sym (flat_map_single (λ j. at_most (place j) width most) (range_with_len 0 n)))
    ∙ none-in-row (is_broken bytes) (λ j. at_most (place j) width most ∷ []) 0 n (λ j within. under bytes (place j) width most (low j (omega (arith, within))))

-- The last entries

choose : (b : Bool) (x y most : ℕ) → x ≤ most → y ≤ most → cond b x y ≤ most
choose true x y most a b = a
choose false x y most a b = b

last-small : (belongs : ℕ → Entry → Bool) (value : Entry → ℕ) (most start n : ℕ) (es : List Entry) → start ≤ most → All (λ (e : Entry). value e ≤ most) es → last_from belongs value start n es ≤ most
last-small belongs value most start n [] first all = first
last-small belongs value most start n (e ∷ es) first all =
    last-small belongs value most (cond (belongs n e) (value e) start) (suc n) es (choose (belongs n e) (value e) start most (all 0 e (omega arith)) first) (λ k d h. all (suc k) d (omega (arith, h)))

-- The size and the queue

size-found : (k : ℕ) → 1 ≤ k → k ≤ 8 → size_of_length (image_length (2 ^ k)) ≡ Some (2 ^ k)
size-found zero a b = absurd (omega arith)
size-found (suc zero) a b = refl
size-found (suc (suc zero)) a b = refl
size-found (suc (suc (suc zero))) a b = refl
size-found (suc (suc (suc (suc zero)))) a b = refl
size-found (suc (suc (suc (suc (suc zero))))) a b = refl
size-found (suc (suc (suc (suc (suc (suc zero)))))) a b = refl
size-found (suc (suc (suc (suc (suc (suc (suc zero))))))) a b = refl
size-found (suc (suc (suc (suc (suc (suc (suc (suc zero)))))))) a b = refl
size-found (suc (suc (suc (suc (suc (suc (suc (suc (suc k))))))))) a b = absurd (omega arith)

-- a size of at most 256 is an early power of two
low-power : (z k : ℕ) → z ≡ 2 ^ k → z ≤ 256 → k ≤ 8
low-power z k is few = ⊎_elim (λ (low : k < 9). omega (arith, low)) (λ (high : 9 ≤ k). let more : 512 ≤ z = subst (λ (y : ℕ). 512 ≤ y) (sym is) (pow_mono high) in absurd (omega (arith, few, more))) (cases_lt k 9)

queue-found : (queue : ℕ) → queue ≤ 1 → queue_of_flags (buffer_flags queue) ≡ Some queue
queue-found zero h = refl
queue-found (suc zero) h = refl
queue-found (suc (suc q)) h = absurd (omega (arith, h))

flags-small : (queue : ℕ) → queue ≤ 1 → buffer_flags queue < 256 ^ 2
flags-small zero h = omega arith
flags-small (suc zero) h = omega arith
flags-small (suc (suc q)) h = absurd (omega (arith, h))

address-small : (queue size i : ℕ) → queue ≤ 1 → size ≤ 256 → i < size → buffer_address queue size i < 256 ^ 8
address-small zero size i h few low = omega (arith, few, low)
address-small (suc zero) size i h few low = omega (arith, few, low)
address-small (suc (suc q)) size i h few low = absurd (omega (arith, h))

-- each length of an entry fits a buffer of 512 bytes
abbrev Fits : Entry → Type 0
Fits e = e.1 ≤ buffer_size

all-fit : (key : Shape) (es : List Entry) → key.length ≡ buffer_size → All (IsLawful key) es → All Fits es
all-fit key es full lawful k d h = let fits = (lawful k d h).1 in omega (arith, fits, full)

-- the most that a length in the used ring may be
abbrev most_used : ℕ → ℕ
most_used queue = cond (queue == 0) buffer_size 0

used-small : (queue : ℕ) (returned : List Entry) → queue ≤ 1 → All Fits returned → ReturnsAreEmpty queue returned → All (λ (e : Entry). e.1 ≤ most_used queue) returned
used-small zero returned h fit empty = fit
used-small (suc zero) returned h fit empty = λ k d within. let none = empty refl k d within in omega (arith, none)
used-small (suc (suc q)) returned h fit empty = absurd (omega (arith, h))

most-used-small : (queue : ℕ) → most_used queue ≤ 512
most-used-small queue = choose (queue == 0) buffer_size 0 512 (omega arith) (omega arith)

-- The image

module _ (key : Shape) (offered returned : List Entry) (words : List ℕ) (shape : IsShape key) (full : key.length ≡ buffer_size) (final : AreFinal key offered returned words)
    (small : key.size ≤ link_limit) (offered_fit : All (IsLawful key) offered) (returned_fit : All (IsLawful key) returned) (empty : ReturnsAreEmpty key.queue returned)
    (back : length returned ≤ length offered) (near : length offered ≤ key.size + length returned) where
  abbrev z : ℕ
  z = key.size

  abbrev v : Values
  v = values_in z words

  abbrev bytes : List ℕ
  bytes = word_image z words

  few : (2 ≤ z) × (z ≤ 256)
  few = let s = size_facts z shape.size in (s.0, small)

  addr : (i : ℕ) → i < z → number_at (desc_addr_at i) 8 bytes ≡ buffer_address key.queue z i
  addr i low =
      let is : v.addr i ≡ buffer_address key.queue z i = final.each (DescAddr i) low ∙ ap (λ k. k * (key.queue * z + i)) full in
      let small = address-small key.queue z i shape.queue few.1 low in
      reads.addr-read z v i low (omega (arith, is, small)) ∙ is

  flags : (i : ℕ) → i < z → number_at (desc_flags_at i) 2 bytes ≡ buffer_flags key.queue
  flags i low =
      let is : v.flags i ≡ buffer_flags key.queue = final.each (DescFlags i) low in
      let small = flags-small key.queue shape.queue in
      reads.flags-read z v i low (omega (arith, is, small)) ∙ is

  next : (i : ℕ) → i < z → number_at (desc_next_at i) 2 bytes ≡ 0
  next i low = let is : v.next i ≡ 0 = final.each (DescNext i) low in reads.next-read z v i low (omega (arith, is)) ∙ is

  zero_flags : (number_at (16 * z) 2 bytes ≡ 0) × (number_at (18 * z + 8) 2 bytes ≡ 0)
  zero_flags =
      let a : v.avail_flags ≡ 0 = final.each AvailFlags tt in
      let u : v.used_flags ≡ 0 = final.each UsedFlags tt in
      (reads.avail-flags-read z v (omega (arith, a)) ∙ a, reads.used-flags-read z v (omega (arith, u)) ∙ u)

  avail : avail_idx z bytes ≡ length offered % 65536
  avail = let is : v.avail_idx ≡ length offered % 65536 = final.each AvailIdx tt in reads.avail-idx-read z v (omega (arith, is)) ∙ is

  used : used_idx z bytes ≡ length returned % 65536
  used = let is : v.used_idx ≡ length returned % 65536 = final.each UsedIdx tt in reads.used-idx-read z v (omega (arith, is)) ∙ is

  offered_number : (p : ℕ) → p < z → number_at (avail_ring_at z p) 2 bytes ≤ z - 1
  offered_number p low =
      let small : v.avail_ring p ≤ z - 1 = subst (λ k. k ≤ z - 1) (sym (final.each (AvailRing p) low)) (last-small (λ n e. (n % z) == p) number_of (z - 1) 0 0 offered (omega arith) (λ k d h. let f = (offered_fit k d h).0 in omega (arith, f))) in
      let size = few in let read = reads.avail-ring-read z v p low (omega (arith, small, size)) in omega (arith, read, small)

  used_number : (p : ℕ) → p < z → number_at (used_id_at z p) 4 bytes ≤ z - 1
  used_number p low =
      let small : v.used_id p ≤ z - 1 = subst (λ k. k ≤ z - 1) (sym (final.each (UsedId p) low)) (last-small (λ n e. (n % z) == p) number_of (z - 1) 0 0 returned (omega arith) (λ k d h. let f = (returned_fit k d h).0 in omega (arith, f))) in
      let size = few in let read = reads.used-id-read z v p low (omega (arith, small, size)) in omega (arith, read, small)

  offered_length : (i : ℕ) → i < z → number_at (desc_len_at i) 4 bytes ≤ buffer_size
  offered_length i low =
      let small : v.len i ≤ buffer_size = subst (λ k. k ≤ buffer_size) (sym (final.each (DescLen i) low)) (last-small (λ n e. number_of e == i) (λ e. e.1) buffer_size 0 0 offered (omega arith) (all-fit key offered full offered_fit)) in
      let read = reads.len-read z v i low (omega (arith, small)) in omega (arith, read, small)

  used_length : (p : ℕ) → p < z → number_at (used_len_at z p) 4 bytes ≤ most_used key.queue
  used_length p low =
      let small : v.used_len p ≤ most_used key.queue = subst (λ k. k ≤ most_used key.queue) (sym (final.each (UsedLen p) low))
      (last-small (λ n e. (n % z) == p) (λ e. e.1) (most_used key.queue) 0 0 returned (omega arith) (used-small key.queue returned shape.queue (all-fit key returned full returned_fit) empty)) in
      let most = most-used-small key.queue in let read = reads.used-len-read z v p low (omega (arith, small, most)) in omega (arith, read, small)

  both : (r : Rule) (rs : List Rule) → find (is_broken bytes) (r ∷ []) ≡ None → find (is_broken bytes) rs ≡ None → find (is_broken bytes) (r ∷ rs) ≡ None
  both r rs here more = none-of (is_broken bytes) (r ∷ []) rs here more

  abbrev r1 : Rule
  r1 = exactly (16 * z) 2 0

  abbrev r2 : Rule
  r2 = exactly (18 * z + 4) 2 0

  abbrev r3 : Rule
  r3 = exactly (18 * z + 6) 1 0

  abbrev r4 : Rule
  r4 = exactly (18 * z + 6 + 1) 1 0

  abbrev r5 : Rule
  r5 = exactly (18 * z + 8) 2 0

  abbrev r6 : Rule
  r6 = exactly (26 * z + 12) 2 0

  of_descriptor : (i : ℕ) → i < z → find (is_broken bytes) (descriptor_constants z key.queue i) ≡ None
  of_descriptor i low = both (exactly (desc_addr_at i) 8 (buffer_address key.queue z i)) (exactly (desc_flags_at i) 2 (buffer_flags key.queue) ∷ exactly (desc_next_at i) 2 0 ∷ [])
      (same bytes (desc_addr_at i) 8 (buffer_address key.queue z i) (addr i low))
      (both (exactly (desc_flags_at i) 2 (buffer_flags key.queue)) (exactly (desc_next_at i) 2 0 ∷ [])
      (same bytes (desc_flags_at i) 2 (buffer_flags key.queue) (flags i low)) (same bytes (desc_next_at i) 2 0 (next i low)))

  of_rings : find (is_broken bytes) (ring_constants z) ≡ None
  of_rings = both r1 (r2 ∷ r3 ∷ r4 ∷ r5 ∷ r6 ∷ []) (same bytes (16 * z) 2 0 zero_flags.0)
      (both r2 (r3 ∷ r4 ∷ r5 ∷ r6 ∷ []) (same bytes (18 * z + 4) 2 0 (reads.used-event-read z v))
      (both r3 (r4 ∷ r5 ∷ r6 ∷ []) (same bytes (18 * z + 6) 1 0 (reads.gap-read z v))
      (both r4 (r5 ∷ r6 ∷ []) (same bytes (18 * z + 6 + 1) 1 0 (reads.gap-end-read z v))
      (both r5 (r6 ∷ []) (same bytes (18 * z + 8) 2 0 zero_flags.1) (same bytes (26 * z + 12) 2 0 (reads.avail-event-read z v))))))

  no_constant : first_broken bytes (constants z key.queue) ≡ None
  no_constant = none-broken bytes (constants z key.queue) (none-of (is_broken bytes) (flat_map (descriptor_constants z key.queue) (range_with_len 0 z)) (ring_constants z)
      (none-in-row (is_broken bytes) (descriptor_constants z key.queue) 0 z (λ i within. of_descriptor i (omega (arith, within)))) of_rings)

  not_ahead : idx_place z bytes ≡ None
  not_ahead =
      let far : ahead z bytes ≡ length offered - length returned = (λ i. (avail i + 65536 - used i) % 65536) ∙ ahead_is (length offered) (length returned) back (let n = near in let f = few in omega (arith, n, f)) in
      let close : ahead z bytes ≤ z = let n = near in omega (arith, far, n) in
      ap (λ (b : Bool). cond b (Some (18 * z + 10)) None) (le-ltb z (ahead z bytes) close)

  no_id : first_broken bytes (ids z) ≡ None
  no_id = none-broken bytes (ids z) (none-of (is_broken bytes) (offered_ids z) (used_ids z) (column bytes (avail_ring_at z) 2 (z - 1) z offered_number) (column bytes (used_id_at z) 4 (z - 1) z used_number))

  no_length : first_broken bytes (lens z key.queue) ≡ None
  no_length = none-broken bytes (lens z key.queue) (none-of (is_broken bytes) (desc_lens z) (used_lens z key.queue) (column bytes desc_len_at 4 buffer_size z offered_length) (column bytes (used_len_at z) 4 (most_used key.queue) z used_length))

  no_fault : first_of (faults z key.queue bytes) ≡ None
  no_fault = λ i. first_of (with_fault Constant (no_constant i) ∷ with_fault IdxAhead (not_ahead i) ∷ with_fault IdRange (no_id i) ∷ with_fault LenRange (no_length i) ∷ [])

  the_size : size_of_length (length bytes) ≡ Some z
  the_size = ap size_of_length (image_has_length z v) ∙ (λ i. size_of_length (image_length (shape.size.3 i))) ∙ size-found shape.size.0 shape.size.1 (low-power z shape.size.0 shape.size.3 small) ∙ (λ i. Some (sym shape.size.3 i))

  the_queue : queue_of_flags (number_at (desc_flags_at 0) 2 bytes) ≡ Some key.queue
  the_queue = ap queue_of_flags (flags 0 (let f = few in omega (arith, f))) ∙ queue-found key.queue shape.queue

  pub is_sound : checked bytes ≡ Ok (record { size = z; queue = key.queue; avail = length offered % 65536; used = length returned % 65536 })
  is_sound =
      ap (checked_size bytes) the_size
      ∙ (ap (checked_queue z bytes) the_queue
      ∙ (ap (unless_fault (info z key.queue bytes)) no_fault
      ∙ (λ i. Ok (record { size = z; queue = key.queue; avail = avail i; used = used i }))))

pub finished_images : FinishedImagesAreSound
finished_images ring driver device closed finished link empty =
    subst (λ (x : ℕ × ℕ). checked (word_image x.0 closed.words) ≡ Ok (record { size = x.0; queue = x.1; avail = length driver.written % 65536; used = length device.written % 65536 })) (λ i. (sym finished.size i, sym finished.queue i))
    (is_sound (shape_of ring) driver.written device.written closed.words finished.shape (sym finished.width ∙ link.1) finished.all_words (subst (λ z. z ≤ link_limit) finished.size link.0) finished.offered_fit finished.returned_fit
    (subst (λ q. ReturnsAreEmpty q device.written) finished.queue empty) back near)
  where
    back : length device.written ≤ length driver.written
    back = let count = finished.device_count in let all = ap (length {A = Entry}) finished.offered ∙ length-append device.taken finished.offered_rest in omega (arith, count, all)

    near : length driver.written ≤ (shape_of ring).size + length device.written
    near = let count = finished.driver_count in let all = ap (length {A = Entry}) finished.returned ∙ length-append driver.taken finished.returned_rest in omega (arith, count, all)

pub short_images : FinishedImagesAreShort
short_images ring driver device closed finished link =
    let long = image_has_length closed.size (values_in closed.size closed.words) in let few = link.0 in omega (arith, long, few)
