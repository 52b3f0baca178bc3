-- Where the fields of a split virtqueue stand among the words of its table: one word a field.
-- Source: VIRTIO 1.2, section 2.7 (the descriptor table, the available ring and the used ring); the order of the words is docs/PROFILE.md's.
use Rattle.std.specs.Prelude.{ℕ, ◌+◌, ◌*◌, ◌<◌, List, slice_index}
use Rattle.shared_words.specs.declared.field.Field.{Field}
use Rattle.shared_words.specs.declared.field.Field.TheVariants.{DescAddr, DescLen, DescFlags, DescNext, AvailFlags, AvailIdx, AvailRing, UsedFlags, UsedIdx, UsedId, UsedLen}

-- the words of a queue of this size
abbrev pub word_count : ℕ → ℕ
word_count size = 7 * size + 4

-- the word of a field
abbrev pub word : ℕ → Field → ℕ
word size (DescAddr i) = 4 * i
word size (DescLen i) = 4 * i + 1
word size (DescFlags i) = 4 * i + 2
word size (DescNext i) = 4 * i + 3
word size AvailFlags = 4 * size
word size AvailIdx = 4 * size + 1
word size (AvailRing p) = 4 * size + 2 + p
word size UsedFlags = 5 * size + 2
word size UsedIdx = 5 * size + 3
word size (UsedId p) = 5 * size + 4 + 2 * p
word size (UsedLen p) = 5 * size + 5 + 2 * p

-- a field's descriptor or place is one of the queue's
abbrev pub HasPlace : ℕ → Field → Type 0
HasPlace size (DescAddr i) = i < size
HasPlace size (DescLen i) = i < size
HasPlace size (DescFlags i) = i < size
HasPlace size (DescNext i) = i < size
HasPlace size AvailFlags = Unit {0}
HasPlace size AvailIdx = Unit {0}
HasPlace size (AvailRing p) = p < size
HasPlace size UsedFlags = Unit {0}
HasPlace size UsedIdx = Unit {0}
HasPlace size (UsedId p) = p < size
HasPlace size (UsedLen p) = p < size

-- what the words say in a field
abbrev pub field_at : List ℕ → ℕ → Field → ℕ
field_at words size field = slice_index words (word size field)
