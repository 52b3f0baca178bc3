-- The bytes of a virtqueue as its driver and its device lay them in memory, and the writes of both sides.
-- Source: VIRTIO 1.2, section 2.7: the descriptor table (2.7.5), the available ring (2.7.6) and the used ring (2.7.8), one after the
-- other, with alignments of 16, 2 and 4 bytes. All numbers are little-endian.
use Rattle.std.specs.Prelude.{ℕ, ◌+◌, ◌*◌, ◌%◌, ◌==◌, List, [], ◌∷◌, ◌++◌, take, drop, if◌then◌else◌}
use Rattle.std.specs.List.{flat_map, range_with_len}
use Rattle.byteorder.specs.Endian.{little_bytes}
use Rattle.mc_base.specs.Limits.{buffer_size}

-- ---- offsets of the fields

-- a descriptor has 16 bytes: addr (8), len (4), flags (2), next (2)
abbrev pub desc_addr_at : ℕ → ℕ
desc_addr_at i = 16 * i

abbrev pub desc_len_at : ℕ → ℕ
desc_len_at i = 8 + 16 * i

abbrev pub desc_flags_at : ℕ → ℕ
desc_flags_at i = 12 + 16 * i

abbrev pub desc_next_at : ℕ → ℕ
desc_next_at i = 14 + 16 * i

-- the available ring: flags (2), idx (2), an entry (2) for each place, used_event (2)
abbrev pub avail_flags_at : ℕ → ℕ
avail_flags_at size = 16 * size

abbrev pub avail_idx_at : ℕ → ℕ
avail_idx_at size = 16 * size + 2

abbrev pub avail_ring_at : ℕ → ℕ → ℕ
avail_ring_at size p = 16 * size + 4 + 2 * p

abbrev pub used_event_at : ℕ → ℕ
used_event_at size = 18 * size + 4

-- it ends at 18 * size + 6. The sizes are even, so the next multiple of 4 is two bytes on
abbrev pub gap_at : ℕ → ℕ
gap_at size = 18 * size + 6

-- the used ring: flags (2), idx (2), an element for each place with id (4) and len (4), avail_event (2)
abbrev pub used_flags_at : ℕ → ℕ
used_flags_at size = 18 * size + 8

abbrev pub used_idx_at : ℕ → ℕ
used_idx_at size = 18 * size + 10

abbrev pub used_id_at : ℕ → ℕ → ℕ
used_id_at size p = 18 * size + 12 + 8 * p

abbrev pub used_len_at : ℕ → ℕ → ℕ
used_len_at size p = 18 * size + 16 + 8 * p

abbrev pub avail_event_at : ℕ → ℕ
avail_event_at size = 26 * size + 12

abbrev pub image_length : ℕ → ℕ
image_length size = 26 * size + 14

-- ---- values of the fields

-- the buffers of queue 0 and of queue 1 lie side by side; the device writes the former (WRITE is 2) and reads the latter
abbrev pub buffer_address : ℕ → ℕ → ℕ → ℕ
buffer_address queue size i = buffer_size * (queue * size + i)

abbrev pub buffer_flags : ℕ → ℕ
buffer_flags queue = if queue == 0 then 2 else 0

-- the values of all fields but the events
pub record Values : Type 0 where
  pub addr : ℕ → ℕ
  pub len : ℕ → ℕ
  pub flags : ℕ → ℕ
  pub next : ℕ → ℕ
  pub avail_flags : ℕ
  pub avail_idx : ℕ
  pub avail_ring : ℕ → ℕ
  pub used_flags : ℕ
  pub used_idx : ℕ
  pub used_id : ℕ → ℕ
  pub used_len : ℕ → ℕ

abbrev pub descriptor : Values → ℕ → List ℕ
descriptor v i = little_bytes 8 (v.addr i) ++ (little_bytes 4 (v.len i) ++ (little_bytes 2 (v.flags i) ++ little_bytes 2 (v.next i)))

abbrev pub offered_entry : Values → ℕ → List ℕ
offered_entry v p = little_bytes 2 (v.avail_ring p)

abbrev pub used_element : Values → ℕ → List ℕ
used_element v p = little_bytes 4 (v.used_id p) ++ little_bytes 4 (v.used_len p)

-- something for each descriptor or place of the queue
abbrev pub for_each : (ℕ → List ℕ) → ℕ → List ℕ
for_each f size = flat_map f (range_with_len 0 size)

-- the events, and the bytes between the rings, are 0
abbrev pub image : ℕ → Values → List ℕ
image size v =
    for_each (descriptor v) size
    ++ (little_bytes 2 v.avail_flags ++ (little_bytes 2 v.avail_idx ++ (for_each (offered_entry v) size ++ (0 ∷ 0 ∷ 0 ∷ 0 ∷
    (little_bytes 2 v.used_flags ++ (little_bytes 2 v.used_idx ++ (for_each (used_element v) size ++ (0 ∷ 0 ∷ []))))))))

-- at the start all but the constants is 0
abbrev pub start_values : ℕ → ℕ → Values
start_values size queue = record {
  addr = buffer_address queue size;
  len = λ i. 0;
  flags = λ i. buffer_flags queue;
  next = λ i. 0;
  avail_flags = 0;
  avail_idx = 0;
  avail_ring = λ p. 0;
  used_flags = 0;
  used_idx = 0;
  used_id = λ p. 0;
  used_len = λ p. 0;
}

abbrev pub start_image : ℕ → ℕ → List ℕ
start_image size queue = image size (start_values size queue)

-- ---- the writes of the two sides

-- a number is written at an offset, `width` bytes wide
pub record ImageWrite : Type 0 where
  pub offset : ℕ
  pub width : ℕ
  pub value : ℕ

abbrev pub write : ℕ → ℕ → ℕ → ImageWrite
write offset width value = record { offset = offset; width = width; value = value }

-- a buffer's number with a length
abbrev pub Offer : Type 0
Offer = ℕ × ℕ

-- for its n-th entry, counted from 0, the driver writes the length, the number at place n modulo the size, and the index
abbrev pub driver_step : ℕ → ℕ → Offer → List ImageWrite
driver_step size n e =
    write (desc_len_at e.0) 4 e.1
    ∷ write (avail_ring_at size (n % size)) 2 e.0
    ∷ write (avail_idx_at size) 2 ((n + 1) % 65536)
    ∷ []

-- for its n-th the device writes the number, the length, and the index
abbrev pub device_step : ℕ → ℕ → Offer → List ImageWrite
device_step size n e =
    write (used_id_at size (n % size)) 4 e.0
    ∷ write (used_len_at size (n % size)) 4 e.1
    ∷ write (used_idx_at size) 2 ((n + 1) % 65536)
    ∷ []

-- the writes for all entries, of which the first is the n-th
abbrev pub steps_from : (ℕ → Offer → List ImageWrite) → ℕ → List Offer → List ImageWrite
steps_from step n [] = []
steps_from step n (e ∷ es) = step n e ++ steps_from step (n + 1) es

abbrev pub driver_writes : ℕ → List Offer → List ImageWrite
driver_writes size offered = steps_from (driver_step size) 0 offered

abbrev pub device_writes : ℕ → List Offer → List ImageWrite
device_writes size returned = steps_from (device_step size) 0 returned

-- the bytes after a write, and after a list of writes
abbrev pub written : List ℕ → ImageWrite → List ℕ
written bytes w = take w.offset bytes ++ (little_bytes w.width w.value ++ drop (w.offset + w.width) bytes)

abbrev pub all_written : List ℕ → List ImageWrite → List ℕ
all_written bytes [] = bytes
all_written bytes (w ∷ ws) = all_written (written bytes w) ws
