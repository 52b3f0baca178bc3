-- That a client stands where its log leads.
-- Source: the code of the client.
use Rattle.std.specs.Prelude.{◌≡◌, ℕ, suc, ◌+◌, ◌-◌, ◌≤◌, true, false, List, [], ◌∷◌, ◌++◌, length, drop, replicate, slice_get, Option, Some, None}
use Rattle.std.specs.List.{list_any}
use Rattle.board_model.specs.declared.scenario.CallLine.{CallLine}
use Rattle.board_model.specs.Logs.{LoggedCall}
use Rattle.call_logs.specs.LogMessages.{contents_received}
use Rattle.call_logs.specs.Following.{is_refused}
use Rattle.call_logs.specs.declared.got.Got.{Got}
use Rattle.call_logs.specs.CallBytes.{is_reply}
use Rattle.call_logs.specs.Roles.{Role, client, receive_line, request_line, call_lines, client_lines, bye_line, are_as_said, due, FitsRole, got_from}
use Rattle.call_actor.specs.declared.place.ClientPlace.{ClientPlace}
use Rattle.call_actor.specs.declared.place.ClientPlace.TheVariants.{New, Created, LookedUp, Waited, Sent, Received, Left, Ended}
use Rattle.call_actor.specs.ClientSteps.{ClientRole, create_line, lookup_line, wait_line}

abbrev pub role_of : ClientRole → Role
role_of c = client c.domain c.repeat c.calls

-- ---- the lines from the one asked for on

abbrev pub after_call : ClientRole → ℕ → List CallLine
after_call c n = call_lines c.domain c.repeat (n + 1) (drop n c.calls) ++ bye_line c.domain ∷ []

abbrev pub after_sends : ClientRole → ℕ → List CallLine
after_sends c n = replicate c.repeat (receive_line c.domain) ++ after_call c (n + 1)

abbrev pub lines_from : ClientRole → ClientPlace → ℕ × ℕ → List CallLine
lines_from c Created k = client_lines c.domain c.repeat c.calls
lines_from c LookedUp k = lookup_line c ∷ wait_line c ∷ after_call c 0
lines_from c Waited k = wait_line c ∷ after_call c 0
lines_from c (Sent n times) k = replicate (c.repeat + 1 - times) (request_line c.domain (n + 1) k) ++ after_sends c n
lines_from c (Received n times) k = replicate (c.repeat + 1 - times) (receive_line c.domain) ++ after_call c (n + 1)
lines_from c Left k = bye_line c.domain ∷ []
lines_from c place k = []

-- the line asked for
abbrev pub line_at : ClientRole → ClientPlace → ℕ × ℕ → CallLine
line_at c LookedUp k = lookup_line c
line_at c Waited k = wait_line c
line_at c (Sent n times) k = request_line c.domain (n + 1) k
line_at c (Received n times) k = receive_line c.domain
line_at c Left k = bye_line c.domain
line_at c place k = create_line c

-- ---- the messages that came

-- what these messages are, of the calls before a place, hangs on those that come after alone
pub record Settles (c : ClientRole) (n : ℕ) (gots : List Got) (messages : List (List ℕ)) : Type 0 where
  pub said : (later : List (List ℕ)) → are_as_said c.repeat 1 c.calls (messages ++ later) ≡ are_as_said c.repeat (n + 1) (drop n c.calls) later
  pub got : (later : List (List ℕ)) → got_from c.repeat 1 c.calls (messages ++ later) ≡ gots ++ got_from c.repeat (n + 1) (drop n c.calls) later

-- the replies to the call at a place that came before the one asked for
pub record Receives (c : ClientRole) (n times : ℕ) (first : List ℕ) (gots : List Got) (messages : List (List ℕ)) : Type 0 where
  pub front : List (List ℕ)
  pub settled : Settles c n gots front
  pub parts : messages ≡ front ++ replicate (times - 1) first
  pub reply : 2 ≤ times → is_reply (n + 1) first ≡ true

abbrev pub HasMessages : ClientRole → ClientPlace → List ℕ → List Got → List (List ℕ) → Type 0
HasMessages c (Sent n times) first gots messages = Settles c n gots messages
HasMessages c (Received n times) first gots messages = Receives c n times first gots messages
HasMessages c Left first gots messages = Settles c (length c.calls) gots messages
HasMessages c Ended first gots messages = gots ≡ got_from c.repeat 1 c.calls messages
HasMessages c place first gots messages = (messages ≡ []) × (gots ≡ [])

-- ---- where a client stands

-- the place of a call is one of the calls, and it is sent or received from once on and so many times at most
abbrev pub calls_wanted : ClientPlace → ℕ
calls_wanted (Sent n times) = suc n
calls_wanted (Received n times) = suc n
calls_wanted place = 0

abbrev pub times_some : ClientPlace → ℕ
times_some (Sent n times) = times
times_some (Received n times) = times
times_some place = 1

abbrev pub times_most : ClientPlace → ℕ
times_most (Sent n times) = times
times_most (Received n times) = times
times_most place = 0

abbrev pub IsWithin : ClientRole → ClientPlace → Type 0
IsWithin c place = (calls_wanted place ≤ length c.calls) × (1 ≤ times_some place) × (times_most place ≤ c.repeat)

abbrev pub IsCallAt : ClientRole → ClientPlace → ℕ × ℕ → Type 0
IsCallAt c (Sent n times) k = slice_get c.calls n ≡ Some k
IsCallAt c place k = Unit {0}

abbrev pub Asks : ClientPlace → Type 0
Asks New = ⊥
Asks Ended = ⊥
Asks place = Unit {0}

-- a line is asked for: the one of the place, which comes after the log
pub record IsAsked (c : ClientRole) (place : ClientPlace) (line : CallLine) (log : List LoggedCall) : Type 0 where
  pub asks : Asks place
  pub call : ℕ × ℕ
  pub call_is : IsCallAt c place call
  pub line_is : line ≡ line_at c place call
  pub later : drop (length log) (client_lines c.domain c.repeat c.calls) ≡ lines_from c place call
  pub none_refused : list_any (λ (l : LoggedCall). is_refused l.answer) log ≡ false

abbrev pub Stands : ClientRole → ClientPlace → Option CallLine → List LoggedCall → Type 0
Stands c place (Some line) log = IsAsked c place line log
Stands c New None log = log ≡ []
Stands c Ended None log = due (role_of c) log ≡ None
Stands c place None log = ⊥

pub record ClientFits (c : ClientRole) (place : ClientPlace) (first : List ℕ) (gots : List Got) (asked : Option CallLine) (log : List LoggedCall) : Type 0 where
  pub fits : FitsRole (role_of c) log
  pub messages : HasMessages c place first gots (contents_received log)
  pub stands : Stands c place asked log
