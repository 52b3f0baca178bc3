-- A picture that is written whole, or breaks off.
-- Source: docs/PROFILE.md, "The outside".
use Rattle.std.specs.Prelude.{ℕ, List, Result}
use Rattle.event_order.specs.declared.event.Event.{Event}
use Rattle.outer_io.specs.Faults.{HasCause}
use Rattle.outer_io.specs.Writes.{Writes}
use Rattle.outer_io.specs.declared.sink.Sink.{Ghosts}

-- a picture of these events was written whole, or a proper prefix of it where a write failed
pub record WritesPicture {K T E : Type 0} (sink : Ghosts K) (picture : List Event → List ℕ → Type 0) (events : List Event) (old new : K) (result : Result T E) : Type 0 where
  pub text : List ℕ
  pub drawn : picture events text
  pub bytes : Writes (sink.written old) (sink.written new) result text
  pub cause : HasCause (sink.faults old) (sink.faults new) result
