-- Where an actor of a relay stands, and the line that it gives next.
-- Source: docs/PROFILE.md, "Relays". A step is what the last line asked for. The next line hangs on the step, on what is left of the opening and
-- of the packets, on how many receives were asked for, and on the answer.
use Rattle.std.specs.Prelude.{◌≡◌, ℕ, ◌+◌, ◌-◌, ◌*◌, ◌≤◌, ◌<◌, nat_lt, Bool, true, false, List, [], ◌∷◌, drop, length, Option, Some, None, option_map, if◌then◌else◌}
use Rattle.std.specs.Borrow.{Bor}
use Rattle.std.specs.List.{AllByRecursion, list_all}
use Rattle.mc_base.specs.Limits.{asked_limit}
use Rattle.mc_base.specs.declared.refusal.Refusal.{Refusal}
use Rattle.mc_base.specs.declared.refusal.Refusal.TheVariants.{ChanClosed}
use Rattle.board_model.specs.declared.scenario.Call.{Call}
use Rattle.board_model.specs.declared.scenario.Call.TheVariants.{PktRecv, PktSend, Release, CloseSend, CloseRecv}
use Rattle.board_model.specs.declared.scenario.CallLine.{CallLine}
use Rattle.board_model.specs.Journal.{PlainAnswer, agrees, gives, refuses}
use Rattle.board_model.specs.Logs.{LoggedCall}
use Rattle.mc_journal.specs.declared.entry.Answer.{Answer}
use Rattle.mc_journal.specs.Entry.{plain_answer}
use Rattle.hop_relay.specs.declared.role.Role.{Role}
use Rattle.hop_relay.specs.declared.role.Role.TheVariants.{First, Middle, Last}
use Rattle.hop_relay.specs.declared.step.Step.{Step}
use Rattle.hop_relay.specs.declared.step.Step.TheVariants.{Opening, Receiving, Sending, Releasing, ClosingSender, ClosingReceiver, Ended}
use Rattle.hop_relay.specs.Roles.{opening, send_line, receive_line, release_line, close_send_line, close_recv_line, sends, receives, due, FitsRole}

-- the most packets of a relay
abbrev pub packet_limit : ℕ
packet_limit = 100000

-- ---- steps

-- what a call asks for
abbrev pub step_of : Call → Step
step_of (PktRecv port) = Receiving
step_of (PktSend port bytes) = Sending
step_of (Release label) = Releasing
step_of (CloseSend port) = ClosingSender
step_of (CloseRecv port) = ClosingReceiver
step_of other = Opening

-- what a line asks for, or that there is none
abbrev pub step_for : Option CallLine → Step
step_for None = Ended
step_for (Some line) = step_of line.call

-- one where a packet is received, and one where one is sent
abbrev pub receives_at : Step → ℕ
receives_at Receiving = 1
receives_at step = 0

abbrev pub sends_at : Step → ℕ
sends_at Sending = 1
sends_at step = 0

abbrev pub is_opening : Step → Bool
is_opening Opening = true
is_opening step = false

-- lines that neither send nor receive, nor release or close
abbrev pub are_of_opening : List CallLine → Bool
are_of_opening lines = list_all (λ l. is_opening (step_of l.call)) lines

-- ---- answers

-- what an actor is told
abbrev pub heard : Option (Bor Answer) → Option PlainAnswer
heard told = option_map (λ a. plain_answer a.now) told

abbrev pub is_agreed : Option PlainAnswer → Bool
is_agreed (Some agrees) = true
is_agreed told = false

abbrev pub was_refused : Option PlainAnswer → Bool
was_refused (Some (refuses word)) = true
was_refused told = false

abbrev pub is_closed : Refusal → Bool
is_closed ChanClosed = true
is_closed word = false

-- ---- the next line

-- what an actor holds: its step, the lines of its opening and the packets that are left, and how many receives it asked for
pub record Place : Type 0 where
  pub step : Step
  pub opening_left : List CallLine
  pub packets_left : List (List ℕ)
  pub receives_asked : ℕ

-- the send of the next packet, and after the last the close
abbrev pub next_of : List (List ℕ) → CallLine
next_of [] = close_send_line 0
next_of (bytes ∷ rest) = send_line 0 bytes

-- after an `ok`
abbrev pub after_ok : Role → List (List ℕ) → ℕ → Step → Option CallLine
after_ok (First packets) left k Opening = Some (next_of left)
after_ok (First packets) left k Sending = Some (next_of left)
after_ok (Middle d most) left k Opening = Some (receive_line d 1)
after_ok (Middle d most) left k Sending = Some (release_line d k)
after_ok (Middle d most) left k Releasing = Some (receive_line d (k + 1))
after_ok (Middle d most) left k ClosingSender = Some (close_recv_line d)
after_ok (Last d most) left k Opening = Some (receive_line d 1)
after_ok (Last d most) left k Releasing = Some (receive_line d (k + 1))
after_ok role left k step = None

-- after the answer to a receive
abbrev pub after_receive : Role → ℕ → Option PlainAnswer → Option CallLine
after_receive (Middle d most) k (Some (gives size bytes)) = if nat_lt most k then None else Some (send_line d bytes)
after_receive (Middle d most) k (Some (refuses word)) = if is_closed word then Some (close_send_line d) else None
after_receive (Last d most) k (Some (gives size bytes)) = if nat_lt most k then None else Some (release_line d k)
after_receive (Last d most) k (Some (refuses word)) = if is_closed word then Some (close_recv_line d) else None
after_receive role k told = None

-- behind the opening
abbrev pub behind : Role → List (List ℕ) → ℕ → Step → Option PlainAnswer → Option CallLine
behind role left k Receiving told = after_receive role k told
behind role left k step told = if is_agreed told then after_ok role left k step else None

-- in the opening: its next line, unless the call before was refused
abbrev pub opening_next : Step → List CallLine → Option PlainAnswer → Option CallLine
opening_next Opening (line ∷ lines) told = if was_refused told then None else Some line
opening_next step lines told = None

abbrev pub opening_after : Step → List CallLine → Option PlainAnswer → List CallLine
opening_after Opening (line ∷ lines) told = if was_refused told then line ∷ lines else lines
opening_after step lines told = lines

abbrev pub or_else : Option CallLine → Option CallLine → Option CallLine
or_else (Some line) other = Some line
or_else None other = other

abbrev pub next_line : Role → Place → Option PlainAnswer → Option CallLine
next_line role p told = or_else (opening_next p.step p.opening_left told) (behind role p.packets_left p.receives_asked p.step told)

-- an actor went on to its next line
pub record GoesOn (role : Role) (p : Place) (told : Option PlainAnswer) (next : Option CallLine) (q : Place) : Type 0 where
  pub line : next ≡ next_line role p told
  pub step : q.step ≡ step_for next
  pub opening_left : q.opening_left ≡ opening_after p.step p.opening_left told
  pub packets_left : q.packets_left ≡ drop (sends_at (step_for next)) p.packets_left
  pub receives_asked : q.receives_asked ≡ p.receives_asked + receives_at (step_for next)

-- ---- numbers

-- between these is the number of receives that were asked for: a receive may be one too many, and all else follows one that was not
abbrev pub least_receives : Step → ℕ
least_receives Receiving = 1
least_receives Sending = 1
least_receives Releasing = 1
least_receives step = 0

abbrev pub most_receives : ℕ → Step → ℕ
most_receives most Opening = 0
most_receives most Sending = most
most_receives most Releasing = most
most_receives most step = most + 1

-- the lines that may follow before the next receive
abbrev pub rank : Step → ℕ
rank Opening = 3
rank Receiving = 4
rank Sending = 3
rank Releasing = 1
rank ClosingSender = 2
rank ClosingReceiver = 1
rank Ended = 0

-- no more than so many lines are still to come
abbrev pub left_to_ask : ℕ → Place → ℕ
left_to_ask most p = length p.opening_left + length p.packets_left + 4 * (most + 1 - p.receives_asked) + rank p.step

-- the bytes of a packet that a line sends
abbrev pub SendsBytes : Call → Type 0
SendsBytes (PktSend port bytes) = AllByRecursion (λ b. b < 256) bytes
SendsBytes other = Unit {0}

-- a packet that a line sends is one that a line may send
abbrev pub FitsSend : Call → Type 0
FitsSend (PktSend port bytes) = (length bytes ≤ asked_limit) × AllByRecursion (λ b. b < 256) bytes
FitsSend other = Unit {0}

-- ---- logs

-- a line that was asked is due. Nothing is asked before the first line and after the last
abbrev pub Stands : Role → Step → Option CallLine → List LoggedCall → Type 0
Stands role step (Some line) log = (due role log ≡ Some line) × (step ≡ step_of line.call)
Stands role Opening None log = log ≡ []
Stands role Ended None log = due role log ≡ None
Stands role step None log = ⊥

abbrev pub lines_asked : Option CallLine → ℕ
lines_asked None = 0
lines_asked (Some line) = 1

abbrev pub packets_of : Role → List (List ℕ)
packets_of (First packets) = packets
packets_of role = []

-- the log fits the role, what is asked is due, and what the actor holds is what the rules make of the log: the lines of the opening and the packets
-- that were not given yet, and how many receives were
pub record FitsRelay (role : Role) (p : Place) (asked : Option CallLine) (log : List LoggedCall) : Type 0 where
  pub fits : FitsRole role log
  pub stands : Stands role p.step asked log
  pub opening_left : p.opening_left ≡ drop (length log + lines_asked asked) (opening role)
  pub packets_left : p.packets_left ≡ drop (sends log + sends_at (step_for asked)) (packets_of role)
  pub receives_asked : p.receives_asked ≡ receives log + receives_at (step_for asked)
