-- The text of numbered calls: for how many clients, the size of the rings, how often each request is sent, and the calls.
-- Source: docs/FORMATS.md, "Text of numbered calls".
use Rattle.std.specs.Prelude.{◌≡◌, ℕ, ◌≤◌, Bool, true, ◌&&◌, List, [], ◌∷◌, length, codes, bytes_eq, Option, None, Some, Result, Ok, Err, if◌then◌else◌}
use Rattle.std.specs.List.{All}
use Rattle.mc_base.specs.Limits.{last_domain}
use Rattle.board_model.specs.FileWords.{numeral}
use Rattle.board_model.specs.LineReasons.{is_link_size}
use Rattle.call_logs.specs.declared.numbered.NumberedCall.{NumberedCall}
use Rattle.call_logs.specs.CallsBoard.{IsCall}
use Rattle.actor_lang.specs.declared.fault.InputReason.{InputReason}
use Rattle.actor_lang.specs.declared.fault.InputReason.TheVariants.{Number, Many}
use Rattle.actor_lang.specs.declared.calls.CallsHead.{CallsHead}
use Rattle.actor_lang.specs.InputLines.{input_lines, words_in}
use Rattle.actor_lang.specs.InputNumbers.{number_in, ring_size}
use Rattle.actor_lang.specs.InputFaults.{RefusedInput, ◌>>=◌, at_line, or_form, first_and_others, told_from, line_limit, is_past}

pub record NumberedCalls : Type 0 where
  pub clients : ℕ
  pub size : ℕ
  pub repeat : ℕ
  pub calls : List NumberedCall

-- ---- the first line: calls C size Q repeat R

-- the words beside the numbers
abbrev pub are_fixed : List ℕ → List ℕ → List ℕ → Bool
are_fixed calls rings times = bytes_eq calls (codes "calls") && (bytes_eq rings (codes "size") && bytes_eq times (codes "repeat"))

-- C, Q and R
abbrev pub calls_words : Option (List (List ℕ)) → Option (List ℕ × List ℕ × List ℕ)
calls_words (Some (calls ∷ clients ∷ rings ∷ size ∷ times ∷ repeat ∷ [])) =
    if are_fixed calls rings times then Some (clients, size, repeat) else None
calls_words words = None

abbrev pub head_of : Option ℕ → Option ℕ → Option ℕ → Result CallsHead InputReason
head_of (Some clients) (Some size) (Some repeat) = Ok (record { clients = clients; size = size; repeat = repeat })
head_of clients size repeat = Err Number

abbrev pub calls_numbers : List ℕ × List ℕ × List ℕ → Result CallsHead InputReason
calls_numbers w = head_of (number_in (numeral 1 last_domain w.0)) (number_in (ring_size 4 w.1)) (number_in (numeral 1 4 w.2))

abbrev pub calls_of_words : Option (List (List ℕ)) → Result CallsHead InputReason
calls_of_words words = or_form (calls_words words) >>= calls_numbers

abbrev pub calls_head : List ℕ → Result CallsHead InputReason
calls_head line = calls_of_words (words_in line)

-- ---- a call: D CELL AMOUNT

abbrev pub last_cell : ℕ
last_cell = 15

abbrev pub greatest_amount : ℕ
greatest_amount = 18446744073709551615

abbrev pub call_words : Option (List (List ℕ)) → Option (List ℕ × List ℕ × List ℕ)
call_words (Some (client ∷ cell ∷ amount ∷ [])) = Some (client, cell, amount)
call_words words = None

abbrev pub call_of : Option ℕ → Option ℕ → Option ℕ → Result NumberedCall InputReason
call_of (Some client) (Some cell) (Some amount) = Ok (record { client = client; cell = cell; amount = amount })
call_of client cell amount = Err Number

abbrev pub call_numbers : ℕ → List ℕ × List ℕ × List ℕ → Result NumberedCall InputReason
call_numbers clients w =
    call_of (number_in (numeral 1 clients w.0)) (number_in (numeral 0 last_cell w.1)) (number_in (numeral 0 greatest_amount w.2))

abbrev pub call_in : ℕ → List ℕ → Result NumberedCall InputReason
call_in clients line = or_form (call_words (words_in line)) >>= call_numbers clients

abbrev pub unless_past : ℕ → NumberedCall → Result NumberedCall InputReason
unless_past n call = if is_past n then Err Many else Ok call

abbrev pub call_line : ℕ → ℕ → List ℕ → Result NumberedCall InputReason
call_line clients n line = call_in clients line >>= unless_past n

-- ---- the text

abbrev pub with_calls : CallsHead → List NumberedCall → Result NumberedCalls RefusedInput
with_calls head calls = Ok (record { clients = head.clients; size = head.size; repeat = head.repeat; calls = calls })

abbrev pub calls_behind : List (List ℕ) → CallsHead → Result NumberedCalls RefusedInput
calls_behind lines head = told_from (call_line head.clients) 2 lines >>= with_calls head

abbrev pub calls_of_lines : List ℕ × List (List ℕ) → Result NumberedCalls RefusedInput
calls_of_lines lines = at_line 1 (calls_head lines.0) >>= calls_behind lines.1

abbrev pub calls_told : List ℕ → Result NumberedCalls RefusedInput
calls_told text = first_and_others (input_lines text) >>= calls_of_lines

-- ---- what numbered calls that are told have

pub record AreFitCalls (c : NumberedCalls) : Type 0 where
  pub some_clients : 1 ≤ c.clients
  pub few_clients : c.clients ≤ last_domain
  pub size : is_link_size c.size ≡ true
  pub wide : 4 ≤ c.size
  pub some_repeat : 1 ≤ c.repeat
  pub few_repeat : c.repeat ≤ 4
  pub few : length c.calls ≤ line_limit
  pub calls : All (IsCall c.clients) c.calls
