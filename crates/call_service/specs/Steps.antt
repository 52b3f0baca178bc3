-- What the steps inside a call return. Public clauses name none of these.
-- Source: the code of the service.
use Rattle.std.specs.Prelude.{ℕ, ◌+◌, ◌^◌, nat_lt, true, false, ◌==◌, List, Option, Some, None, Result, Ok, Err, if◌then◌else◌}
use Rattle.call_service.specs.declared.carried.Carried.{Carried}
use Rattle.call_service.specs.declared.reply.Reply.{Reply}
use Rattle.call_service.specs.declared.reply.Status.TheVariants.{Done, Old}
use Rattle.call_service.specs.declared.request.Request.{Request}
use Rattle.call_service.specs.declared.request.ServiceFault.{ServiceFault}
use Rattle.call_service.specs.declared.request.ServiceFault.TheVariants.{Full}
use Rattle.call_service.specs.declared.service.Arrival.{Arrival}
use Rattle.call_service.specs.declared.service.Arrival.TheVariants.{Repeat, Next, Gap}
use Rattle.call_service.specs.declared.service.Last.{Last}
use Rattle.call_service.specs.Served.{served, is_known, last_of, next_number, reply_again, reply_of, reply, call_made}
use Rattle.call_service.specs.Handled.{State, is_full}

abbrev pub arrival_of : List Carried → Request → Arrival
arrival_of h r =
    if is_known r.client r.number h then Repeat (reply_again r.number (last_of r.client h))
    else if r.number == next_number r.client h then Next
    else Gap

abbrev pub reply_or_full : State → Request → Result Reply ServiceFault
reply_or_full s r = if is_full s r then Err Full else Ok (served s.history r).reply

abbrev pub service_after : State → Request → State
service_after s r = if is_full s r then s else record s { history = (served s.history r).history }

-- what is kept of a client's last call
abbrev pub kept_last : Option Carried → Last
kept_last None = record { number = 0; reply = reply Done 0 }
kept_last (Some e) = record { number = e.number; reply = reply_of e }

-- the reply to a repeat by what is kept
abbrev pub reply_again_by : ℕ → Last → Reply
reply_again_by number last = if number == last.number then last.reply else reply Old 0

-- the call by its cell's old value
abbrev pub kept_call : ℕ → Request → Carried
kept_call old r = if nat_lt (old + r.amount) (2 ^ 64) then call_made r false (old + r.amount) else call_made r true old
