-- The image of a ring's words: each word in the bytes of its field.
-- Source: VIRTIO 1.2, section 2.7; which word is which field is told in `shared_words`, `Layout`.
use Rattle.std.specs.Prelude.{ℕ, List, ◌++◌, slice_index}
use Rattle.byteorder.specs.Endian.{little_bytes}
use Rattle.shared_words.specs.Layout.{field_at}
use Rattle.shared_words.specs.declared.field.Field.TheVariants.{DescAddr, DescLen, DescFlags, DescNext, AvailFlags, AvailIdx, AvailRing, UsedFlags, UsedIdx, UsedId, UsedLen}
use Rattle.board_model.specs.RingImage.{Values, image, descriptor, offered_entry, used_element}

abbrev pub values_in : ℕ → List ℕ → Values
values_in size words = record {
  addr = λ i. field_at words size (DescAddr i);
  len = λ i. field_at words size (DescLen i);
  flags = λ i. field_at words size (DescFlags i);
  next = λ i. field_at words size (DescNext i);
  avail_flags = field_at words size AvailFlags;
  avail_idx = field_at words size AvailIdx;
  avail_ring = λ p. field_at words size (AvailRing p);
  used_flags = field_at words size UsedFlags;
  used_idx = field_at words size UsedIdx;
  used_id = λ p. field_at words size (UsedId p);
  used_len = λ p. field_at words size (UsedLen p);
}

abbrev pub word_image : ℕ → List ℕ → List ℕ
word_image size words = image size (values_in size words)

-- ---- parts of it

abbrev pub word_descriptor : ℕ → List ℕ → ℕ → List ℕ
word_descriptor size words = descriptor (values_in size words)

abbrev pub word_entry : ℕ → List ℕ → ℕ → List ℕ
word_entry size words = offered_entry (values_in size words)

abbrev pub word_element : ℕ → List ℕ → ℕ → List ℕ
word_element size words = used_element (values_in size words)

-- the words with flags and idx of a ring
abbrev pub ring_head : List ℕ → ℕ → ℕ → List ℕ
ring_head words flags idx = little_bytes 2 (slice_index words flags) ++ little_bytes 2 (slice_index words idx)
