-- The words of a ring that has not begun, and its buffers.
-- Source: VIRTIO 1.2, section 2.7: all indices start at 0; docs/PROFILE.md: the constants stand from the beginning.
use Rattle.std.specs.Prelude.{ℕ, ◌*◌, ◌/◌, ◌%◌, zero, suc, ◌==◌, nat_lt, replicate, if◌then◌else◌}
use Rattle.mc_base.specs.Stored.{Stored}
use Rattle.shared_words.specs.Constants.{address_of, flags_of}
use Rattle.shared_words.specs.declared.rule.Shape.{Shape}

-- a queue of this size, over buffers of this length
abbrev pub shape : ℕ → ℕ → ℕ → Shape
shape queue size width = record { queue = queue; size = size; length = width }

-- the four words of a descriptor
abbrev pub desc_word : Shape → ℕ → ℕ → ℕ
desc_word key i zero = address_of key i
desc_word key i (suc j) = if j == 1 then flags_of key else 0

abbrev pub start_word : Shape → ℕ → ℕ
start_word key i = if nat_lt i (4 * key.size) then desc_word key (i / 4) (i % 4) else 0

-- a buffer of zeros
abbrev pub new_buffer : ℕ → ℕ → Stored
new_buffer width id = record { number = id; bytes = replicate width 0 }
