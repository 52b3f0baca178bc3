-- The once law: what holds of every list of requests, with any repeats, losses and order.
-- Source: docs/PROFILE.md, "Numbered calls".
use Rattle.std.specs.Prelude.{◌≡◌, ℕ, ◌+◌, ◌≤◌, true, false, ◌==◌, List, [], ◌∷◌, ◌++◌, length, filter, if◌then◌else◌}
use Rattle.call_service.specs.declared.carried.Carried.{Carried}
use Rattle.call_service.specs.declared.request.Request.{Request}
use Rattle.call_service.specs.Served.{AreNumbered, calls_of, history, is_known, is_next, served, stays}

-- the numbers of each client's calls are 1, 2, and so on
abbrev pub AreCarriedOutInOrder : Type 0
AreCarriedOutInOrder = (rs : List Request) → AreNumbered (history rs)

-- no call of a client and number is in the history twice
abbrev pub AreCarriedOutOnce : Type 0
AreCarriedOutOnce = (rs : List Request) (client number : ℕ) → length (filter (λ e. e.number == number) (calls_of client (history rs))) ≤ 1

-- a request that is carried out, then any others: until its client's next call is carried out, each request of this client and number gets the
-- same reply, whatever else it says
abbrev pub GetTheFirstReply : Type 0
GetTheFirstReply =
    (before between : List Request) (r again : Request) → is_next (history before) r ≡ true
    → again.client ≡ r.client → again.number ≡ r.number
    → is_known r.client (r.number + 1) (history (before ++ r ∷ between)) ≡ false
    → served (history (before ++ r ∷ between)) again ≡ stays (served (history before) r).reply (history (before ++ r ∷ between))

-- one repeat of a call that was carried out
abbrev pub MayBeLeftOut : Type 0
MayBeLeftOut = (before after : List Request) (r : Request) → is_known r.client r.number (history before) ≡ true → history (before ++ r ∷ after) ≡ history (before ++ after)

-- the requests that are no repeats of calls that were carried out before them
abbrev pub first_times : List Carried → List Request → List Request
first_times h [] = []
first_times h (r ∷ rs) = if is_known r.client r.number h then first_times h rs else r ∷ first_times (served h r).history rs

abbrev pub MayAllBeLeftOut : Type 0
MayAllBeLeftOut = (rs : List Request) → history (first_times [] rs) ≡ history rs
