-- What contracts see of a table of a ring and of its halves.
-- Source: docs/ARCHITECTURE.md.
use Rattle.std.specs.Prelude.{◌≡◌, ℕ}
use Rattle.atomic_table.specs.Seated.{TableId}
use Rattle.shared_words.specs.Places.{Holds}
use Rattle.shared_words.specs.declared.rule.Shape.{Shape}
use Rattle.shared_words.specs.declared.view.Role.{Role}
use Rattle.shared_words.specs.declared.view.HalfView.{HalfView}

-- which ring it is, and how many bytes each of its buffers has
pub record RingId : Type 0 where
  pub table : TableId
  pub width : ℕ

-- how many buffers it has
abbrev pub size_of : RingId → ℕ
size_of ring = ring.table.slots

pub record TableShown : Type 0 where
  pub ring : RingId
  pub queue : ℕ

-- its shape
abbrev pub shape_of : TableShown → Shape
shape_of table = record { queue = table.queue; size = size_of table.ring; length = table.ring.width }

pub record HalfShown : Type 0 where
  pub ring : RingId
  pub role : Role
  pub view : HalfView

-- the half is this one of the table's
pub record IsHalfOf (table : TableShown) (role : Role) (half : HalfShown) : Type 0 where
  pub same_ring : half.ring ≡ table.ring
  pub same_role : half.role ≡ role

-- the half with another view
abbrev pub with_view : HalfView → HalfShown → HalfShown
with_view view half = record half { view = view }

-- the half holds the number
abbrev pub HoldsNumber : HalfShown → ℕ → Type 0
HoldsNumber half id = Holds half.role (size_of half.ring) half.view id
