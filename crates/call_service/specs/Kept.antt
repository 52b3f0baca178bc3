-- What a service keeps beside its history: the value of each cell, and each client's last call with its reply.
-- Source: the code of the service.
use Rattle.std.specs.Prelude.{◌≡◌, ℕ, ◌≤◌, ◌<◌, length, Some, slice_get}
use Rattle.std.specs.Vec.{vec_capacity}
use Rattle.call_service.specs.declared.service.Service.TheInside.{Inside}
use Rattle.call_service.specs.Served.{AreNumbered, value, last_of}
use Rattle.call_service.specs.Handled.{State}
use Rattle.call_service.specs.Steps.{kept_last}

abbrev pub state_of : Inside → State
state_of s = record { history = s.history.items; room = s.room }

pub record IsKept (s : Inside) : Type 0 where
  pub numbered : AreNumbered s.history.items
  pub cells : (cell : ℕ) → cell < 16 → slice_get s.cells cell ≡ Some (value s.history.items cell)
  pub last : (client : ℕ) → client < 8 → slice_get s.last client ≡ Some (kept_last (last_of client s.history.items))
  pub room : s.room ≤ vec_capacity s.history
  pub fits : length s.history.items ≤ s.room
