-- The words that no step stores, and the ranges of the others.
-- Source: VIRTIO 1.2, section 2.7.5 (WRITE is 2, for buffers that the device writes), and docs/PROFILE.md: single descriptors, whose numbers are the buffers'.
use Rattle.std.specs.Prelude.{◌≡◌, ℕ, ◌+◌, ◌*◌, ◌<◌, ◌≤◌, ◌==◌, List, length, slice_index, if◌then◌else◌}
use mathlib.Core.Option.{some}
use lib.ListN.{get_elem?}
use Rattle.shared_words.specs.Layout.{field_at}
use Rattle.shared_words.specs.Entry.{Entry, number_of}
use Rattle.shared_words.specs.Way.{Way}
use Rattle.shared_words.specs.declared.field.Field.TheVariants.{DescAddr, DescFlags, DescNext, AvailFlags, UsedFlags}
use Rattle.shared_words.specs.declared.rule.Shape.{Shape}

-- the buffers of the queues lie side by side
abbrev pub address_of : Shape → ℕ → ℕ
address_of key i = key.length * (key.queue * key.size + i)

-- the device writes the buffers of queue 0, and reads those of queue 1
abbrev pub flags_of : Shape → ℕ
flags_of key = if key.queue == 0 then 2 else 0

pub record Constants (key : Shape) (words : List ℕ) : Type 0 where
  pub addr : (i : ℕ) → i < key.size → field_at words key.size (DescAddr i) ≡ address_of key i
  pub flags : (i : ℕ) → i < key.size → field_at words key.size (DescFlags i) ≡ flags_of key
  pub next : (i : ℕ) → i < key.size → field_at words key.size (DescNext i) ≡ 0
  pub avail_flags : field_at words key.size AvailFlags ≡ 0
  pub used_flags : field_at words key.size UsedFlags ≡ 0

-- an entry is a buffer of the ring, with a length that fits it
abbrev pub IsLawful : Shape → Entry → Type 0
IsLawful key e = (number_of e < key.size) × (e.1 ≤ key.length) × (length e.0.bytes ≡ key.length)

-- each number is below the size and each length fits a buffer, in the words of a way and in its list
pub record InRange (way : Way) (key : Shape) (words : List ℕ) (written : List Entry) : Type 0 where
  pub numbers : (p : ℕ) → p < key.size → slice_index words (way.number p) < key.size
  pub lens : (k : ℕ) → k < key.size → slice_index words (way.len k) ≤ key.length
  pub entries : (n : ℕ) (e : Entry) → get_elem? written n ≡ some e → IsLawful key e
