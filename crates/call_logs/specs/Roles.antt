-- Numbered calls: what a client and the server are to do, by the lines that they called so far and the answers.
-- Source: docs/PROFILE.md, "Numbered calls on a board".
use Rattle.std.specs.Prelude.{◌≡◌, ℕ, ◌+◌, ◌*◌, nat_lt, Bool, true, false, ◌&&◌, ◌==◌, List, [], ◌∷◌, ◌++◌, codes, decimal, length, take, drop, replicate, filter_map, slice_get, Option, Some, None, is_some, Result, Ok, Err, if◌then◌else◌}
use Rattle.std.specs.List.{flat_map, list_all, list_any}
use Rattle.mc_base.specs.Limits.{single_size}
use Rattle.mc_base.specs.declared.name.EndName.{EndName}
use Rattle.board_model.specs.declared.scenario.Call.{Call}
use Rattle.board_model.specs.declared.scenario.Call.TheVariants.{Create, Lookup, MsgSend, MsgRecv}
use Rattle.board_model.specs.declared.scenario.CallLine.{CallLine}
use Rattle.board_model.specs.Logs.{LoggedCall, bytes_answered}
use Rattle.board_model.specs.MadeLines.{once, tried, labelled, waited}
use Rattle.call_service.specs.declared.request.Request.{Request}
use Rattle.call_service.specs.declared.request.ServiceFault.{ServiceFault}
use Rattle.call_service.specs.declared.request.ServiceFault.TheVariants.{Form}
use Rattle.call_service.specs.Bytes.{request_in}
use Rattle.call_service.specs.Served.{rising}
use Rattle.call_service.specs.Handled.{Handled, handled, opening as new_service}
use Rattle.call_logs.specs.LogMessages.{contents_received}
use Rattle.call_logs.specs.Following.{is_refused, last_call, Follows}
use Rattle.call_logs.specs.CallBytes.{request_bytes, bye_bytes, bye_in, are_replies, got_in}
use Rattle.call_logs.specs.declared.got.Got.{Got}

-- a client, by its domain, how often it sends each request, and its calls, the cell and the amount of each; and the server, domain 0, by
-- how many clients it has, how often they send each request, and how many calls they have together
pub data Role : Type 0 where
  client : ℕ → ℕ → List (ℕ × ℕ) → Role
  server : ℕ → ℕ → ℕ → Role

-- ---- the lines of both

-- the one endpoint of a domain
abbrev pub endpoint_of : ℕ → EndName
endpoint_of d = record { domain = d; node = 0; port = 1 }

-- domain d looks the endpoint of another domain up, and waits for it
abbrev pub finding : ℕ → List ℕ → ℕ → List CallLine
finding d label other = labelled d label (Lookup (endpoint_of other)) ∷ waited d label ∷ []

abbrev pub receive_line : ℕ → CallLine
receive_line d = tried d (MsgRecv 1 single_size)

-- ---- a client: its lines are told from the start

abbrev pub request_line : (d number : ℕ) → ℕ × ℕ → CallLine
request_line d number call = tried d (MsgSend 1 (endpoint_of 0) 1 (request_bytes d number call.0 call.1))

abbrev pub bye_line : ℕ → CallLine
bye_line d = tried d (MsgSend 1 (endpoint_of 0) 1 (bye_bytes d))

-- each request is sent so many times, and then as many replies are received
abbrev pub call_lines : (d repeat number : ℕ) → List (ℕ × ℕ) → List CallLine
call_lines d repeat number [] = []
call_lines d repeat number (call ∷ calls) =
    replicate repeat (request_line d number call) ++ (replicate repeat (receive_line d) ++ call_lines d repeat (number + 1) calls)

abbrev pub client_lines : (d repeat : ℕ) → List (ℕ × ℕ) → List CallLine
client_lines d repeat calls = once d (Create 1) ∷ (finding d (codes "a") 0 ++ (call_lines d repeat 1 calls ++ bye_line d ∷ []))

-- whether the messages that a client received are as they must be: of each call, from this number on, replies to it
abbrev pub are_as_said : (repeat number : ℕ) → List (ℕ × ℕ) → List (List ℕ) → Bool
are_as_said repeat number [] messages = true
are_as_said repeat number (call ∷ calls) messages = are_replies number (take repeat messages) && are_as_said repeat (number + 1) calls (drop repeat messages)

-- ---- the server: its lines hang on the messages that it received

abbrev pub server_opening : ℕ → List CallLine
server_opening clients = once 0 (Create 1) ∷ flat_map (λ d. finding 0 (codes "a" ++ decimal d) d) (rising 1 clients)

-- what a service that was made for so many calls did with these messages, one after the other: with the last, and what it is then
abbrev pub handled_from : Handled → List (List ℕ) → Handled
handled_from h [] = h
handled_from h (m ∷ ms) = handled_from (handled h.service m h.reply) ms

-- before the first message there is no answer, as to a message that is no request
abbrev pub handled_all : ℕ → List (List ℕ) → Handled
handled_all calls messages = handled_from (record { answer = Err Form; service = new_service calls; reply = replicate 16 0 }) messages

abbrev pub reply_line : ℕ → List ℕ → CallLine
reply_line to reply = tried 0 (MsgSend 1 (endpoint_of to) 0 reply)

-- the reply goes to the client that the request names. After a fault there is none
abbrev pub reply_due : Result ℕ ServiceFault → List ℕ → Option CallLine
reply_due (Ok to) reply = Some (reply_line to reply)
reply_due (Err fault) reply = None

-- whether the bye of each client is among the messages
abbrev pub all_left : ℕ → List (List ℕ) → Bool
all_left clients messages = list_all (λ d. list_any (λ c. c == d) (filter_map bye_in messages)) (rising 1 clients)

-- after a message, the last of those received
abbrev pub due_after_message : (clients repeat calls : ℕ) → List (List ℕ) → List ℕ → Option CallLine
due_after_message clients repeat calls messages message =
    if nat_lt (repeat * calls + clients) (length messages) then None
    else if is_some (bye_in message) then (if all_left clients messages then None else Some (receive_line 0))
    else reply_due (handled_all calls messages).answer (handled_all calls messages).reply

abbrev pub is_receive : Call → Bool
is_receive (MsgRecv port max) = true
is_receive other = false

-- after the opening, which is never empty
abbrev pub due_behind : (clients repeat calls : ℕ) → List LoggedCall → Option LoggedCall → Option CallLine
due_behind clients repeat calls log None = None
due_behind clients repeat calls log (Some l) = if is_receive l.line.call then due_after_message clients repeat calls (contents_received log) (bytes_answered l.answer) else Some (receive_line 0)

abbrev pub due_of_server : (clients repeat calls : ℕ) → List LoggedCall → Option CallLine → Option CallLine
due_of_server clients repeat calls log (Some line) = Some line
due_of_server clients repeat calls log None = due_behind clients repeat calls log (last_call log)

-- ---- the line that is due

abbrev pub due_unrefused : Role → List LoggedCall → Option CallLine
due_unrefused (client d repeat calls) log = if are_as_said repeat 1 calls (contents_received log) then slice_get (client_lines d repeat calls) (length log) else None
due_unrefused (server clients repeat calls) log = due_of_server clients repeat calls log (slice_get (server_opening clients) (length log))

-- after a refused line there is none
abbrev pub due : Role → List LoggedCall → Option CallLine
due role log = if list_any (λ l. is_refused l.answer) log then None else due_unrefused role log

-- each line of a log is due after those before it
abbrev pub FitsRole : Role → List LoggedCall → Type 0
FitsRole role log = Follows (due role) log

-- and no line is due after them
abbrev pub HasEnded : Role → List LoggedCall → Type 0
HasEnded role log = due role log ≡ None

-- ---- what a log tells

abbrev pub request_or_none : Result Request ServiceFault → Option Request
request_or_none (Ok r) = Some r
request_or_none (Err fault) = None

-- the messages that are requests
abbrev pub requests_in : List (List ℕ) → List Request
requests_in messages = filter_map (λ m. request_or_none (request_in m)) messages

abbrev pub requests_received : List LoggedCall → List Request
requests_received log = requests_in (contents_received log)

-- what was got of a call by its replies, where all came: it is in the first, and the others are the same
abbrev pub got_of : (repeat number : ℕ) → List (List ℕ) → Option Got
got_of repeat number [] = None
got_of repeat number (m ∷ ms) = if length (m ∷ ms) == repeat && are_replies number (m ∷ ms) then Some (got_in m) else None

-- of a call and of those after it, which come only then
abbrev pub and_later : Option Got → List Got → List Got
and_later None later = []
and_later (Some g) later = g ∷ later

-- what was got of the messages that a client received, for each of its calls, from this number on, whose replies came
abbrev pub got_from : (repeat number : ℕ) → List (ℕ × ℕ) → List (List ℕ) → List Got
got_from repeat number [] messages = []
got_from repeat number (call ∷ calls) messages = and_later (got_of repeat number (take repeat messages)) (got_from repeat (number + 1) calls (drop repeat messages))

-- what a client got. The server gets nothing
abbrev pub got_lines : Role → List LoggedCall → List Got
got_lines (client d repeat calls) log = got_from repeat 1 calls (contents_received log)
got_lines (server clients repeat calls) log = []
