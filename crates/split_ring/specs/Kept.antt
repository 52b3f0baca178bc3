-- What a driver and a device keep beside their half of the table.
-- Source: docs/ARCHITECTURE.md.
use Rattle.std.specs.Prelude.{◌≡◌, ℕ, ◌+◌, ◌%◌, ◌^◌, Bool, false, List, length, sum, slice_index_or, if◌then◌else◌}
use Rattle.shared_words.specs.Entry.{times}
use Rattle.shared_words.specs.Places.{begins}
use Rattle.shared_words.specs.Shown.{HalfShown, size_of}
use Rattle.shared_words.specs.declared.view.Role.{Role}
use Rattle.shared_words.specs.declared.view.Staged.TheVariants.{Idle}
use Rattle.split_ring.specs.Ends.{End, IsSound}
use Rattle.split_ring.specs.declared.counts.Counts.{Counts}

-- a half of the table, as an end
abbrev pub end_of : HalfShown → End
end_of half = record { ring = half.ring; written = half.view.written; taken = half.view.taken; shown = half.view.shown; looks = half.view.looks }

pub record IsKept (role : Role) (half : HalfShown) (counts : Counts) : Type 0 where
  pub same_role : half.role ≡ role
  pub idle : half.view.staged ≡ Idle
  pub sound : IsSound role (end_of half)
  pub taken : counts.taken ≡ length half.view.taken % 2 ^ 16
  pub left : half.view.shown ≡ length half.view.taken + counts.left
  pub looks : counts.looks ≡ length half.view.looks % 2 ^ 64
  pub saw : counts.saw ≡ sum half.view.looks % 2 ^ 64

-- one for a number whose flag is set
abbrev pub flag_count : List Bool → ℕ → ℕ
flag_count flags x = if slice_index_or flags x false then 1 else 0

-- the flags of the numbers that a half holds
pub record HasFlags (role : Role) (half : HalfShown) (flags : List Bool) : Type 0 where
  pub count : length flags ≡ size_of half.ring
  pub each : (x : ℕ) → flag_count flags x + times x half.view.written ≡ begins role (size_of half.ring) x + times x half.view.taken
