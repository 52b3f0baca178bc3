-- The numbers that stand in a ring's words at its end.
-- Source: VIRTIO 1.2, section 2.7: the entry of count n stands at place n modulo the size.
use Rattle.std.specs.Prelude.{ℕ, ◌+◌, ◌-◌, ◌%◌, List, map}
use Rattle.shared_words.specs.Layout.{field_at}
use Rattle.shared_words.specs.Slots.{numbers_from}
use Rattle.shared_words.specs.declared.field.Field.{Field}
use Rattle.shared_words.specs.declared.field.Field.TheVariants.{AvailRing, UsedId}
use Rattle.split_ring.specs.declared.finish.Entries.{Entries}
use Rattle.split_ring.specs.declared.finish.Entries.TheVariants.{Offered, Returned}

-- the field with the number at a place
abbrev pub number_field : Entries → ℕ → Field
number_field Offered p = AvailRing p
number_field Returned p = UsedId p

-- the number of the entry of count n
abbrev pub number_at : List ℕ → ℕ → Entries → ℕ → ℕ
number_at words size entries n = field_at words size (number_field entries (n % size))

-- how many entries lie from one count on to below another, both modulo 65536
abbrev pub between : ℕ → ℕ → ℕ
between from to = (to + 65536 - from) % 65536

-- the numbers of the entries from a count on, so many
abbrev pub numbers_standing : List ℕ → ℕ → Entries → ℕ → ℕ → List ℕ
numbers_standing words size entries from count = map (λ n. number_at words size entries (from + n)) (numbers_from 0 count)
