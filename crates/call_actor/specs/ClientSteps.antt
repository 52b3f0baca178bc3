-- Where a client stands, and where it goes when it is told an answer.
-- Source: the code of the client.
use Rattle.std.specs.Prelude.{ℕ, ◌+◌, nat_lt, Bool, ◌==◌, List, codes, slice_get, bytes_eq, Option, Some, None, if◌then◌else◌}
use Rattle.board_model.specs.declared.scenario.Call.TheVariants.{Create, Lookup}
use Rattle.board_model.specs.declared.scenario.CallLine.{CallLine}
use Rattle.board_model.specs.Journal.{PlainAnswer}
use Rattle.board_model.specs.Logs.{bytes_answered}
use Rattle.board_model.specs.MadeLines.{once, labelled, waited}
use Rattle.call_logs.specs.Following.{is_refused}
use Rattle.call_logs.specs.CallBytes.{got_in, is_reply}
use Rattle.call_logs.specs.declared.got.Got.{Got}
use Rattle.call_logs.specs.Roles.{endpoint_of, receive_line, request_line, bye_line}
use Rattle.call_actor.specs.declared.place.Going.{Going}
use Rattle.call_actor.specs.declared.place.ClientPlace.{ClientPlace}
use Rattle.call_actor.specs.declared.place.ClientPlace.TheVariants.{New, Created, LookedUp, Waited, Sent, Received, Left, Ended}

-- what a client was made from
pub record ClientRole : Type 0 where
  pub domain : ℕ
  pub repeat : ℕ
  pub calls : List (ℕ × ℕ)

-- where it goes: its place, the first reply to its call, what it got now, and its line
abbrev pub goes : ClientPlace → List ℕ → Option Got → CallLine → Going
goes place first got line = record { place = place; first = first; got = got; line = Some line }

abbrev pub ends : List ℕ → Going
ends first = record { place = Ended; first = first; got = None; line = None }

abbrev pub create_line : ClientRole → CallLine
create_line c = once c.domain (Create 1)

abbrev pub lookup_line : ClientRole → CallLine
lookup_line c = labelled c.domain (codes "a") (Lookup (endpoint_of 0))

abbrev pub wait_line : ClientRole → CallLine
wait_line c = waited c.domain (codes "a")

-- the send of this time, from 1 on, of the call at a place, or the bye where there is no call
abbrev pub asks_call : ClientRole → (n times : ℕ) → List ℕ → Option Got → Option (ℕ × ℕ) → Going
asks_call c n times first got (Some call) = goes (Sent n times) first got (request_line c.domain (n + 1) call)
asks_call c n times first got None = goes Left first got (bye_line c.domain)

abbrev pub after_sent : ClientRole → (n times : ℕ) → List ℕ → Going
after_sent c n times first = if nat_lt times c.repeat then asks_call c n (times + 1) first None (slice_get c.calls n) else goes (Received n 1) first None (receive_line c.domain)

-- the first reply is one to the call, and each other is the same
abbrev pub is_expected : (n times : ℕ) → List ℕ → List ℕ → Bool
is_expected n times first message = if times == 1 then is_reply (n + 1) message else bytes_eq first message

abbrev pub kept : ℕ → List ℕ → List ℕ → List ℕ
kept times first message = if times == 1 then message else first

abbrev pub after_expected : ClientRole → (n times : ℕ) → List ℕ → Going
after_expected c n times first =
    if nat_lt times c.repeat then goes (Received n (times + 1)) first None (receive_line c.domain)
    else asks_call c (n + 1) 1 first (Some (got_in first)) (slice_get c.calls (n + 1))

abbrev pub after_received : ClientRole → (n times : ℕ) → List ℕ → List ℕ → Going
after_received c n times first message = if is_expected n times first message then after_expected c n times (kept times first message) else ends first

-- by an answer that is no refusal
abbrev pub going_on : ClientRole → ClientPlace → List ℕ → PlainAnswer → Going
going_on c Created first a = goes LookedUp first None (lookup_line c)
going_on c LookedUp first a = goes Waited first None (wait_line c)
going_on c Waited first a = asks_call c 0 1 first None (slice_get c.calls 0)
going_on c (Sent n times) first a = after_sent c n times first
going_on c (Received n times) first a = after_received c n times first (bytes_answered a)
going_on c place first a = ends first

abbrev pub going_told : ClientRole → ClientPlace → List ℕ → PlainAnswer → Going
going_told c place first a = if is_refused a then ends first else going_on c place first a

-- at first, and where there was no line, nothing is told
abbrev pub going : ClientRole → ClientPlace → List ℕ → Option PlainAnswer → Going
going c place first (Some a) = going_told c place first a
going c New first None = goes Created first None (create_line c)
going c place first None = ends first

-- ---- what it got, as it is returned: the number, the status and the value

abbrev pub tuple_of : Got → ℕ × ℕ × ℕ
tuple_of g = (g.number, g.status, g.value)
