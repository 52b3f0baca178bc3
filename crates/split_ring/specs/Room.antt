-- The room for what a ring hands out at its end, so that the end takes no memory.
-- Source: docs/ARCHITECTURE.md.
use Rattle.std.specs.Prelude.{◌≡◌, ℕ, ◌≤◌, [], vec_capacity}
use Rattle.split_ring.specs.declared.room.Room.{Room}

pub record HasRoom (room : Room) (size : ℕ) : Type 0 where
  pub offered_empty : room.offered_left.items ≡ []
  pub returned_empty : room.returned_left.items ≡ []
  pub driver_empty : room.driver_held.items ≡ []
  pub device_empty : room.device_held.items ≡ []
  pub offered_room : size ≤ vec_capacity room.offered_left
  pub returned_room : size ≤ vec_capacity room.returned_left
  pub driver_room : size ≤ vec_capacity room.driver_held
  pub device_room : size ≤ vec_capacity room.device_held
