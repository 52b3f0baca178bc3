-- What is wrong with the bytes of an image: faults in their order, of which the first that applies counts, each with its place.
-- Source: docs/FORMATS.md, "Faults of an image". Within one fault the lowest offset counts. Which queue it is, is read off the flags
-- of the first descriptor.
use Rattle.std.specs.Prelude.{ℕ, ◌+◌, ◌-◌, ◌%◌, Bool, ◌||◌, ◌==◌, nat_lt, List, [], ◌∷◌, ◌++◌, length, map, find, Option, Some, None, option_map, Result, Ok, Err, if◌then◌else◌}
use Rattle.std.specs.List.{flat_map, range_with_len}
use Rattle.std.specs.Option.{option_or}
use Rattle.mc_base.specs.Limits.{buffer_size}
use Rattle.mc_base.specs.Bytes.{number_at}
use Rattle.board_model.specs.RingImage.{desc_addr_at, desc_len_at, desc_flags_at, desc_next_at, avail_flags_at, avail_idx_at, avail_ring_at, used_event_at, gap_at, used_flags_at, used_idx_at, used_id_at, used_len_at, avail_event_at, image_length, buffer_address, buffer_flags}
use Rattle.ring_trace.specs.declared.checking.ImageFault.{ImageFault}
use Rattle.ring_trace.specs.declared.checking.ImageFault.TheVariants.{ImageSize, Constant, IdxAhead, IdRange, LenRange}
use Rattle.ring_trace.specs.declared.checking.ImageInfo.{ImageInfo}

-- ---- the size and the queue of an image

abbrev pub ring_sizes : List ℕ
ring_sizes = 2 ∷ 4 ∷ 8 ∷ 16 ∷ 32 ∷ 64 ∷ 128 ∷ 256 ∷ []

abbrev pub size_of_length : ℕ → Option ℕ
size_of_length n = find (λ size. image_length size == n) ring_sizes

abbrev pub queue_of_flags : ℕ → Option ℕ
queue_of_flags flags = if flags == 2 then Some 0 else (if flags == 0 then Some 1 else None)

-- ---- rules on the numbers in an image

-- the number at a place, so many bytes wide, is at least the one and at most the other
pub record Rule : Type 0 where
  pub place : ℕ
  pub width : ℕ
  pub least : ℕ
  pub most : ℕ

abbrev pub exactly : ℕ → ℕ → ℕ → Rule
exactly place width n = record { place = place; width = width; least = n; most = n }

abbrev pub at_most : ℕ → ℕ → ℕ → Rule
at_most place width n = record { place = place; width = width; least = 0; most = n }

abbrev pub is_broken : List ℕ → Rule → Bool
is_broken image r = nat_lt (number_at r.place r.width image) r.least || nat_lt r.most (number_at r.place r.width image)

-- the place of the first rule that is broken
abbrev pub first_broken : List ℕ → List Rule → Option ℕ
first_broken image rules = option_map (λ r. r.place) (find (is_broken image) rules)

-- the constants of a descriptor, and those after the descriptors
abbrev pub descriptor_constants : ℕ → ℕ → ℕ → List Rule
descriptor_constants size queue i =
    exactly (desc_addr_at i) 8 (buffer_address queue size i)
    ∷ exactly (desc_flags_at i) 2 (buffer_flags queue)
    ∷ exactly (desc_next_at i) 2 0
    ∷ []

abbrev pub ring_constants : ℕ → List Rule
ring_constants size =
    exactly (avail_flags_at size) 2 0
    ∷ exactly (used_event_at size) 2 0
    ∷ exactly (gap_at size) 1 0
    ∷ exactly (gap_at size + 1) 1 0
    ∷ exactly (used_flags_at size) 2 0
    ∷ exactly (avail_event_at size) 2 0
    ∷ []

abbrev pub constants : ℕ → ℕ → List Rule
constants size queue = flat_map (descriptor_constants size queue) (range_with_len 0 size) ++ ring_constants size

-- for each place of the queue, at most this
abbrev pub rules_of_column : (ℕ → ℕ) → ℕ → ℕ → ℕ → List Rule
rules_of_column place width most size = map (λ p. at_most (place p) width most) (range_with_len 0 size)

abbrev pub offered_ids : ℕ → List Rule
offered_ids size = rules_of_column (avail_ring_at size) 2 (size - 1) size

abbrev pub used_ids : ℕ → List Rule
used_ids size = rules_of_column (used_id_at size) 4 (size - 1) size

abbrev pub ids : ℕ → List Rule
ids size = offered_ids size ++ used_ids size

-- frames of queue 1 have their length in the descriptor, and those of queue 0 in the used ring
abbrev pub desc_lens : ℕ → List Rule
desc_lens size = rules_of_column desc_len_at 4 buffer_size size

abbrev pub used_lens : ℕ → ℕ → List Rule
used_lens size queue = rules_of_column (used_len_at size) 4 (if queue == 0 then buffer_size else 0) size

abbrev pub lens : ℕ → ℕ → List Rule
lens size queue = desc_lens size ++ used_lens size queue

-- ---- the faults

-- the indices
abbrev pub avail_idx : ℕ → List ℕ → ℕ
avail_idx size image = number_at (avail_idx_at size) 2 image

abbrev pub used_idx : ℕ → List ℕ → ℕ
used_idx size image = number_at (used_idx_at size) 2 image

-- how far the available index is ahead, modulo 65536
abbrev pub ahead : ℕ → List ℕ → ℕ
ahead size image = (avail_idx size image + 65536 - used_idx size image) % 65536

abbrev pub idx_place : ℕ → List ℕ → Option ℕ
idx_place size image = if nat_lt size (ahead size image) then Some (used_idx_at size) else None

abbrev pub with_fault : ImageFault → Option ℕ → Option (ℕ × ImageFault)
with_fault fault place = option_map (λ p. (p, fault)) place

abbrev pub first_of : List (Option (ℕ × ImageFault)) → Option (ℕ × ImageFault)
first_of [] = None
first_of (o ∷ os) = option_or o (first_of os)

abbrev pub faults : ℕ → ℕ → List ℕ → List (Option (ℕ × ImageFault))
faults size queue image =
    with_fault Constant (first_broken image (constants size queue))
    ∷ with_fault IdxAhead (idx_place size image)
    ∷ with_fault IdRange (first_broken image (ids size))
    ∷ with_fault LenRange (first_broken image (lens size queue))
    ∷ []

-- the answer of a check: the first fault with its place, or what the image is
abbrev pub info : ℕ → ℕ → List ℕ → ImageInfo
info size queue image = record { size = size; queue = queue; avail = avail_idx size image; used = used_idx size image }

abbrev pub unless_fault : ImageInfo → Option (ℕ × ImageFault) → Result ImageInfo (ℕ × ImageFault)
unless_fault known None = Ok known
unless_fault known (Some fault) = Err fault

abbrev pub checked_queue : ℕ → List ℕ → Option ℕ → Result ImageInfo (ℕ × ImageFault)
checked_queue size image None = Err (desc_flags_at 0, Constant)
checked_queue size image (Some queue) = unless_fault (info size queue image) (first_of (faults size queue image))

abbrev pub checked_size : List ℕ → Option ℕ → Result ImageInfo (ℕ × ImageFault)
checked_size image None = Err (length image, ImageSize)
checked_size image (Some size) = checked_queue size image (queue_of_flags (number_at (desc_flags_at 0) 2 image))

abbrev pub checked : List ℕ → Result ImageInfo (ℕ × ImageFault)
checked image = checked_size image (size_of_length (length image))
