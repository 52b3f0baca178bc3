-- What a service does with the bytes of a request: what it answers, the service after it, and what it writes.
-- Source: docs/PROFILE.md, "Numbered calls".
use Rattle.std.specs.Prelude.{ℕ, nat_le, Bool, ◌&&◌, List, [], length, Result, Ok, Err, if◌then◌else◌}
use Rattle.call_service.specs.declared.carried.Carried.{Carried}
use Rattle.call_service.specs.declared.request.Request.{Request}
use Rattle.call_service.specs.declared.request.ServiceFault.{ServiceFault}
use Rattle.call_service.specs.declared.request.ServiceFault.TheVariants.{Full}
use Rattle.call_service.specs.Bytes.{request_in, reply_bytes}
use Rattle.call_service.specs.Served.{served, is_next}

-- a service: what was carried out, and how many calls there is room for
pub record State : Type 0 where
  pub history : List Carried
  pub room : ℕ

abbrev pub opening : ℕ → State
opening calls = record { history = []; room = calls }

-- the request would be carried out, and there is no room for it
abbrev pub is_full : State → Request → Bool
is_full s r = is_next s.history r && nat_le s.room (length s.history)

pub record Handled : Type 0 where
  pub answer : Result ℕ ServiceFault
  pub service : State
  pub reply : List ℕ

-- nothing changes
abbrev pub refused : ServiceFault → State → List ℕ → Handled
refused fault s old = record { answer = Err fault; service = s; reply = old }

abbrev pub replied : State → Request → Handled
replied s r = record {
  answer = Ok r.client;
  service = record s { history = (served s.history r).history };
  reply = reply_bytes r.number (served s.history r).reply;
}

abbrev pub handled_request : State → List ℕ → Result Request ServiceFault → Handled
handled_request s old (Err fault) = refused fault s old
handled_request s old (Ok r) = if is_full s r then refused Full s old else replied s r

-- by the request's bytes, and the bytes that stood where the reply is written
abbrev pub handled : State → List ℕ → List ℕ → Handled
handled s bytes old = handled_request s old (request_in bytes)
