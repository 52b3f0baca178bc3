-- Which event of a list stands before one on which it depends.
-- Source: docs/FORMATS.md, "Journal text".
use Rattle.std.specs.Prelude.{◌≡◌, ◌⊎◌, ℕ, Bool, true, List, slice_get, Some}
use Rattle.event_order.specs.Causes.{IsUnbacked}
use Rattle.event_order.specs.OwnOrder.{Falls, IsOutOfTurn}
use Rattle.event_order.specs.declared.causes.Cause.TheVariants.{Frames, Buffers}
use Rattle.event_order.specs.declared.event.Event.{Event}
use Rattle.event_order.specs.declared.fault.OrderFault.{OrderFault}
use Rattle.event_order.specs.declared.fault.OrderFault.TheVariants.{NoCause, NoMemory}

-- the event at this place stands before one on which it depends: before an earlier one of its domain, before the frame that it takes was put,
-- before a buffer was given back that comes back by it, or, where calls are answered in the scenario's order, before an earlier answer
abbrev pub StandsEarly : Bool → List Event → ℕ → Type 0
StandsEarly by_lines es p = Falls es p ⊎ (IsUnbacked Frames es p ⊎ (IsUnbacked Buffers es p ⊎ ((by_lines ≡ true) × IsOutOfTurn es p)))

-- an event that was read off this line does
pub record LacksCause (by_lines : Bool) (es : List Event) (line : ℕ) : Type 0 where
  pub place : ℕ
  pub event : Event
  pub is_there : slice_get es place ≡ Some event
  pub is_line : event.line ≡ line
  pub early : StandsEarly by_lines es place

-- a fault that tells of a line tells of that of such an event
abbrev pub TellsLine : Bool → List Event → OrderFault → Type 0
TellsLine by_lines es (NoCause line) = LacksCause by_lines es line
TellsLine by_lines es NoMemory = Unit {0}
