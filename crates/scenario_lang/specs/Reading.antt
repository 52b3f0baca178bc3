-- What the readers of the whole language give: a value, or the first reason of refusal of what they are handed.
-- Source: docs/FORMATS.md, "Scenario files"; `board_model` has the definitions.
use Rattle.std.specs.Prelude.{◌≡◌, ℕ, not, List, [], ◌∷◌, map, length, codes, bytes_eq, Option, None, Some, Result, Ok, Err, if◌then◌else◌}
use Rattle.std.specs.List.{list_all}
use Rattle.std.specs.Borrow.{Bor}
use Rattle.arrayvec.specs.ArrayVec.{ArrayVec}
use Rattle.mc_base.specs.Limits.{try_limit, last_domain, last_node, node_limit, pool_limit}
use Rattle.mc_base.specs.declared.name.EndName.{EndName}
use Rattle.board_model.specs.declared.scenario.DomainLine.{DomainLine}
use Rattle.board_model.specs.declared.scenario.Call.{Call}
use Rattle.board_model.specs.declared.scenario.CallLine.{CallLine}
use Rattle.board_model.specs.declared.form.ArgumentKind.{ArgumentKind}
use Rattle.board_model.specs.declared.form.ArgumentKind.TheVariants as kind
use Rattle.board_model.specs.declared.form.Callee.{Callee}
use Rattle.board_model.specs.declared.form.Callee.TheVariants as callee
use Rattle.board_model.specs.declared.reason.LineReason.{LineReason}
use Rattle.board_model.specs.declared.reason.LineReason.TheVariants.{Form, Number, Bytes}
use Rattle.board_model.specs.FileLines.{parts_at}
use Rattle.board_model.specs.FileWords.{Numeral, numeral, is_number, number, is_within, are_bytes, bytes_of, pairs_of, is_label}
use Rattle.board_model.specs.Forms.{Value, bits_told, are_labels, argument_fits, argument_numerals, argument_contents, label_of, value, Makes, form, callee_of, CallParts, told_at, tries_at, fits}
use Rattle.board_model.specs.LineReasons.{is_empty}
use Rattle.scenario_lang.specs.declared.fault.LineFault.{LineFault}
use Rattle.scenario_lang.specs.declared.fault.LineFault.TheVariants.{Refused, NoMemory}
use Rattle.scenario_lang.specs.Fronts.{two_parts, three_parts}

-- a reader answers what it is told to, unless memory runs out
abbrev pub Fails : {Y : Type 0} → LineFault → Result Y LineReason → Type 0
Fails NoMemory told = Unit {0}
Fails (Refused reason) told = told ≡ Err reason

abbrev pub Answers : {X Y : Type 0} → (X → Y) → Result X LineFault → Result Y LineReason → Type 0
Answers view (Ok x) told = told ≡ Ok (view x)
Answers view (Err e) told = Fails e told

-- the words that are lent
abbrev pub seen : List (Bor (List ℕ)) → List (List ℕ)
seen words = map (λ w. w.now) words

infixl 10 ◌>>=◌
abbrev pub ◌>>=◌ : {A B : Type 0} → Result A LineReason → (A → Result B LineReason) → Result B LineReason
(Ok x) >>= f = f x
(Err reason) >>= f = Err reason

abbrev pub or_form : {A : Type 0} → Option A → Result A LineReason
or_form None = Err Form
or_form (Some x) = Ok x

abbrev pub number_in : Numeral → Result ℕ LineReason
number_in n = if is_number n then Ok (number n.word) else Err Number

-- a reader that takes no memory answers what it is told to
abbrev pub Reads : {X Y : Type 0} → (X → Y) → Result X LineReason → Result Y LineReason → Type 0
Reads view (Ok x) told = told ≡ Ok (view x)
Reads view (Err reason) told = told ≡ Err reason

abbrev pub some_bytes : Option (List ℕ) → Result (List ℕ) LineReason
some_bytes None = Err Bytes
some_bytes (Some bytes) = Ok bytes

abbrev pub pairs_in : List ℕ → Result (List ℕ) LineReason
pairs_in word = some_bytes (pairs_of word)

abbrev pub few_bytes : ℕ → ℕ → List ℕ → Result (List ℕ) LineReason
few_bytes least most bytes = if is_within least most (length bytes) then Ok bytes else Err Bytes

abbrev pub bytes_in : ℕ → ℕ → List ℕ → Result (List ℕ) LineReason
bytes_in least most word = some_bytes (bytes_of word) >>= few_bytes least most

-- the first word, and the others
abbrev pub next_word : List (List ℕ) → Result (List ℕ × List (List ℕ)) LineReason
next_word [] = Err Form
next_word (w ∷ ws) = Ok (w, ws)

-- the words after this one
abbrev pub if_first : List ℕ → List ℕ × List (List ℕ) → Result (List (List ℕ)) LineReason
if_first word read = if bytes_eq read.0 word then Ok read.1 else Err Form

unfoldable pub after_word : List ℕ → List (List ℕ) → Result (List (List ℕ)) LineReason
after_word word words = do
  first ← next_word words
  if_first word first

abbrev pub if_last : List ℕ × List (List ℕ) → Result (List ℕ) LineReason
if_last read = if is_empty read.1 then Ok read.0 else Err Form

-- the one word
unfoldable pub last_word : List (List ℕ) → Result (List ℕ) LineReason
last_word words = do
  first ← next_word words
  if_last first

unfoldable pub domain_in : List (List ℕ) → Result DomainLine LineReason
domain_in words = do
  d ← next_word words
  r0 ← after_word (codes "nodes") d.1
  n ← next_word r0
  r1 ← after_word (codes "pool") n.1
  p ← last_word r1
  domain ← number_in (numeral 0 last_domain d.0)
  nodes ← number_in (numeral 1 node_limit n.0)
  pool ← number_in (numeral 1 pool_limit p)
  Ok (record { domain = domain; nodes = nodes; pool = pool })

unfoldable pub link_in : List (List ℕ) → Result (ℕ × ℕ × ℕ) LineReason
link_in words = do
  a ← next_word words
  b ← next_word a.1
  r0 ← after_word (codes "size") b.1
  q ← last_word r0
  driver ← number_in (numeral 0 last_domain a.0)
  device ← number_in (numeral 0 last_domain b.0)
  size ← number_in (numeral 0 18446744073709551615 q)
  Ok (driver, device, size)

unfoldable pub name_at : List ℕ → Result EndName LineReason
name_at word = do
  parts ← or_form (three_parts (parts_at 58 word))
  domain ← number_in (numeral 0 last_domain parts.0)
  node ← number_in (numeral 0 last_node parts.1)
  port ← number_in (numeral 0 65535 parts.2)
  Ok (record { domain = domain; node = node; port = port })

abbrev pub label_in : List ℕ → Result (ArrayVec ℕ) LineReason
label_in word = if is_label word then Ok (label_of word) else Err Form

-- the labels of a word that has the form: 44 is the comma
abbrev pub labels_of : List ℕ → Option (ArrayVec (ArrayVec ℕ))
labels_of word = if are_labels (parts_at 44 word) then Some (record { items = map label_of (parts_at 44 word) }) else None

-- what the word of an argument says, or the first reason for which it says none
abbrev pub value_in : (kind : ArgumentKind) → (bits : ℕ) → List ℕ → Result (Value kind) LineReason
value_in kind bits word =
    if not (argument_fits kind word) then Err Form
    else if not (list_all is_number (argument_numerals kind bits word)) then Err Number
    else if not (list_all are_bytes (argument_contents kind word)) then Err Bytes
    else Ok (value kind word)

-- an argument at the front of words, and the words after it
unfoldable pub argument_in : (kind : ArgumentKind) → (bits : ℕ) → List (List ℕ) → Result (Value kind × List (List ℕ)) LineReason
argument_in kind bits words = do
  w ← next_word words
  v ← value_in kind bits w.0
  Ok (v, w.1)

-- the call that the words of its arguments make, read from the front
abbrev pub call_from : (kinds : List ArgumentKind) → (bits : ℕ) → List (List ℕ) → Makes kinds → Result Call LineReason
call_from [] bits words call = Ok call
call_from (k ∷ ks) bits words makes = argument_in k bits words >>= λ x. call_from ks (bits_told k x.0) x.1 (makes x.0)

abbrev pub call_by : Callee → List (List ℕ) → Result Call LineReason
call_by c words = call_from (form c).arguments 0 words (form c).makes

-- the same for each call, so that it computes at a call alone
abbrev pub call_in : Callee → List (List ℕ) → Result Call LineReason
call_in callee.Create words = call_by callee.Create words
call_in callee.Delete words = call_by callee.Delete words
call_in callee.Lookup words = call_by callee.Lookup words
call_in callee.MsgSend words = call_by callee.MsgSend words
call_in callee.MsgRecv words = call_by callee.MsgRecv words
call_in callee.MsgRecvI words = call_by callee.MsgRecvI words
call_in callee.MsgAvailable words = call_by callee.MsgAvailable words
call_in callee.Connect words = call_by callee.Connect words
call_in callee.OpenSend words = call_by callee.OpenSend words
call_in callee.OpenRecv words = call_by callee.OpenRecv words
call_in callee.PktSend words = call_by callee.PktSend words
call_in callee.PktRecv words = call_by callee.PktRecv words
call_in callee.PktRecvI words = call_by callee.PktRecvI words
call_in callee.Release words = call_by callee.Release words
call_in callee.SclSend words = call_by callee.SclSend words
call_in callee.SclRecv words = call_by callee.SclRecv words
call_in callee.CloseSend words = call_by callee.CloseSend words
call_in callee.CloseRecv words = call_by callee.CloseRecv words
call_in callee.Test words = call_by callee.Test words
call_in callee.Wait words = call_by callee.Wait words
call_in callee.WaitAny words = call_by callee.WaitAny words
call_in callee.Cancel words = call_by callee.Cancel words
call_in callee.Raw words = call_by callee.Raw words
call_in callee.Turn words = call_by callee.Turn words

-- the call that the words behind its port make, where its first argument is one
abbrev pub behind_port : (kinds : List ArgumentKind) → Makes kinds → ℕ → List (List ℕ) → Result Call LineReason
behind_port (kind.Port ∷ kinds) makes port words = call_from kinds 0 words (makes port)
behind_port kinds makes port words = Err Form

abbrev pub call_behind : Callee → ℕ → List (List ℕ) → Result Call LineReason
call_behind c port words = behind_port (form c).arguments (form c).makes port words

-- the same for each call that is made at a port
abbrev pub call_at_port : Callee → ℕ → List (List ℕ) → Result Call LineReason
call_at_port callee.Create port words = call_behind callee.Create port words
call_at_port callee.Delete port words = call_behind callee.Delete port words
call_at_port callee.MsgSend port words = call_behind callee.MsgSend port words
call_at_port callee.MsgRecv port words = call_behind callee.MsgRecv port words
call_at_port callee.MsgRecvI port words = call_behind callee.MsgRecvI port words
call_at_port callee.MsgAvailable port words = call_behind callee.MsgAvailable port words
call_at_port callee.Connect port words = call_behind callee.Connect port words
call_at_port callee.OpenSend port words = call_behind callee.OpenSend port words
call_at_port callee.OpenRecv port words = call_behind callee.OpenRecv port words
call_at_port callee.PktSend port words = call_behind callee.PktSend port words
call_at_port callee.PktRecv port words = call_behind callee.PktRecv port words
call_at_port callee.PktRecvI port words = call_behind callee.PktRecvI port words
call_at_port callee.SclSend port words = call_behind callee.SclSend port words
call_at_port callee.SclRecv port words = call_behind callee.SclRecv port words
call_at_port callee.CloseSend port words = call_behind callee.CloseSend port words
call_at_port callee.CloseRecv port words = call_behind callee.CloseRecv port words
call_at_port c port words = Err Form

abbrev pub if_right : CallParts → Result CallParts LineReason
if_right c = if fits c then Ok c else Err Form

unfoldable pub parts_in : List ℕ → List (List ℕ) → Result CallParts LineReason
parts_in caller words = do
  who ← or_form (two_parts (parts_at 46 caller))
  name ← next_word (tries_at (told_at words).1).1
  c ← or_form (callee_of name.0)
  if_right (record { domain = who.0; node = who.1; told = (told_at words).0; tries = (tries_at (told_at words).1).0; callee = c; arguments = name.1 })

abbrev pub tries_in : Option (List ℕ) → Result (Option ℕ) LineReason
tries_in None = Ok None
tries_in (Some word) = number_in (numeral 1 try_limit word) >>= λ n. Ok (Some n)

abbrev pub told_in : Option (List ℕ) → Result (Option (ArrayVec ℕ)) LineReason
told_in None = Ok None
told_in (Some word) = label_in word >>= λ l. Ok (Some l)

unfoldable pub call_line_in : CallParts → Result CallLine LineReason
call_line_in p = do
  domain ← number_in (numeral 0 last_domain p.domain)
  node ← number_in (numeral 0 last_node p.node)
  tries ← tries_in p.tries
  label ← told_in p.told
  c ← call_in p.callee p.arguments
  Ok (record { domain = domain; node = node; label = label; tries = tries; call = c })
