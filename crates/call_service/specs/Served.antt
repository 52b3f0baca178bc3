-- What a service replies to a request and what it carries out, by the list of the calls that it carried out before.
-- Source: docs/PROFILE.md, "Numbered calls".
use Rattle.std.specs.Prelude.{◌≡◌, ℕ, zero, suc, ◌+◌, ◌^◌, nat_lt, Bool, true, false, not, ◌&&◌, ◌==◌, List, [], ◌∷◌, ◌++◌, length, filter, map, sum, Option, Some, None, if◌then◌else◌}
use Rattle.std.specs.List.{list_any}
use Rattle.call_service.specs.declared.carried.Carried.{Carried}
use Rattle.call_service.specs.declared.reply.Reply.{Reply}
use Rattle.call_service.specs.declared.reply.Status.{Status}
use Rattle.call_service.specs.declared.reply.Status.TheVariants.{Done, Over, Old, Gap}
use Rattle.call_service.specs.declared.request.Request.{Request}

-- ---- what a history says

abbrev pub adds_to : ℕ → Carried → Bool
adds_to cell e = e.cell == cell && not e.over

-- the value of a cell: the sum of what its calls added
abbrev pub value : List Carried → ℕ → ℕ
value h cell = sum (map (λ e. e.amount) (filter (adds_to cell) h))

abbrev pub calls_of : ℕ → List Carried → List Carried
calls_of client h = filter (λ e. e.client == client) h

-- whether a call of this client and number was carried out
abbrev pub is_known : ℕ → ℕ → List Carried → Bool
is_known client number h = list_any (λ e. e.number == number) (calls_of client h)

abbrev pub last_after : Option Carried → List Carried → Option Carried
last_after before [] = before
last_after before (e ∷ es) = last_after (Some e) es

-- the client's last call
abbrev pub last_of : ℕ → List Carried → Option Carried
last_of client h = last_after None (calls_of client h)

-- the number of the client's next call
abbrev pub next_number : ℕ → List Carried → ℕ
next_number client h = length (calls_of client h) + 1

-- ---- replies

abbrev pub reply : Status → ℕ → Reply
reply status value = record { status = status; value = value }

-- to a call that was carried out
abbrev pub reply_of : Carried → Reply
reply_of e = reply (if e.over then Over else Done) e.value

-- to a repeat, by the client's last call
abbrev pub reply_again : ℕ → Option Carried → Reply
reply_again number None = reply Old 0
reply_again number (Some e) = if e.number == number then reply_of e else reply Old 0

-- ---- a request

abbrev pub call_made : Request → Bool → ℕ → Carried
call_made r over value = record { client = r.client; number = r.number; cell = r.cell; amount = r.amount; over = over; value = value }

-- the call with what it comes to: the sum, or the old value where the sum is over the greatest u64
abbrev pub carried_out : List Carried → Request → Carried
carried_out h r = if nat_lt (value h r.cell + r.amount) (2 ^ 64) then call_made r false (value h r.cell + r.amount) else call_made r true (value h r.cell)

-- the reply, and the history after it
pub record Served : Type 0 where
  pub reply : Reply
  pub history : List Carried

abbrev pub stays : Reply → List Carried → Served
stays reply h = record { reply = reply; history = h }

abbrev pub grows : Carried → List Carried → Served
grows e h = record { reply = reply_of e; history = h ++ e ∷ [] }

abbrev pub served : List Carried → Request → Served
served h r =
    if is_known r.client r.number h then stays (reply_again r.number (last_of r.client h)) h
    else if r.number == next_number r.client h then grows (carried_out h r) h
    else stays (reply Gap 0) h

abbrev pub is_next : List Carried → Request → Bool
is_next h r = not (is_known r.client r.number h) && r.number == next_number r.client h

-- ---- requests, one after the other

abbrev pub history_from : List Carried → List Request → List Carried
history_from h [] = h
history_from h (r ∷ rs) = history_from (served h r).history rs

abbrev pub history : List Request → List Carried
history rs = history_from [] rs

-- ---- numbers

abbrev pub rising : ℕ → ℕ → List ℕ
rising from zero = []
rising from (suc n) = from ∷ rising (from + 1) n

-- the numbers of each client's calls are 1, 2, and so on
abbrev pub AreNumbered : List Carried → Type 0
AreNumbered h = (client : ℕ) → map (λ e. e.number) (calls_of client h) ≡ rising 1 (length (calls_of client h))
