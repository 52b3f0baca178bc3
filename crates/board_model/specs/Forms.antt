-- The forms of a line: the words that it may have, and what they say.
-- Source: docs/FORMATS.md, "Scenario files": the lines of domains and links, and the table of calls.
use Rattle.std.specs.Prelude.{ℕ, ◌-◌, ◌*◌, ◌^◌, ◌&&◌, Bool, true, false, List, [], ◌∷◌, ◌++◌, map, length, nat_le, codes, bytes_eq, Option, None, Some, option_map, is_some, unwrap_or, ◌==◌, if◌then◌else◌}
use Rattle.std.specs.List.{list_all}
use Rattle.arrayvec.specs.ArrayVec.{ArrayVec}
use Rattle.mc_base.specs.Limits.{asked_limit, longest_frame, try_limit, last_domain, last_node, node_limit, pool_limit, last_priority}
use Rattle.mc_base.specs.Letter.{bytes_of_bits}
use Rattle.mc_base.specs.declared.name.EndName.{EndName}
use Rattle.mc_base.specs.declared.channel.Kind.{Kind}
use Rattle.mc_base.specs.declared.channel.Kind.TheVariants as kind
use Rattle.mc_base.specs.declared.channel.Bits.{Bits}
use Rattle.mc_base.specs.declared.channel.Bits.TheVariants.{B8, B16, B32, B64}
use Rattle.board_model.specs.declared.scenario.DomainLine.{DomainLine}
use Rattle.board_model.specs.declared.scenario.LinkLine.{LinkLine}
use Rattle.board_model.specs.declared.scenario.Call.{Call}
use Rattle.board_model.specs.declared.scenario.Call.TheVariants.{Create, Delete, Lookup, MsgSend, MsgRecv, MsgRecvI, MsgAvailable, Connect, OpenSend, OpenRecv, PktSend, PktRecv, PktRecvI, Release, SclSend, SclRecv, CloseSend, CloseRecv, Test, Wait, WaitAny, Cancel, Raw, Turn}
use Rattle.board_model.specs.declared.scenario.CallLine.{CallLine}
use Rattle.board_model.specs.declared.form.ArgumentKind.{ArgumentKind}
use Rattle.board_model.specs.declared.form.ArgumentKind.TheVariants.{Port, Name, Priority, Content, Maximum, ChannelKind, ScalarBits, ScalarValue, RequestLabel, RequestLabels, PacketLabel, Limit, PeerDomain, RawFrame}
use Rattle.board_model.specs.declared.form.Callee.{Callee}
use Rattle.board_model.specs.declared.form.Callee.TheVariants as callee
use Rattle.board_model.specs.FileLines.{parts_at, says_nothing}
use Rattle.board_model.specs.FileWords.{Numeral, numeral, number, content, bytes, is_label}
use Rattle.board_model.specs.FileWords.{Content as Bytes}

-- ---- arguments

-- what an argument is read as
abbrev pub Value : ArgumentKind → Type 0
Value Port = ℕ
Value Name = EndName
Value Priority = ℕ
Value Content = List ℕ
Value Maximum = ℕ
Value ChannelKind = Kind
Value ScalarBits = Bits
Value ScalarValue = ℕ
Value RequestLabel = ArrayVec ℕ
Value RequestLabels = ArrayVec (ArrayVec ℕ)
Value PacketLabel = ArrayVec ℕ
Value Limit = ℕ
Value PeerDomain = ℕ
Value RawFrame = List ℕ

-- how many bits the argument after this one has, where this one sets it
abbrev pub bits_told : (kind : ArgumentKind) → Value kind → ℕ
bits_told ScalarBits bits = 8 * bytes_of_bits bits
bits_told kind value = 0

abbrev pub are_three : List (List ℕ) → Bool
are_three (d ∷ n ∷ p ∷ []) = true
are_three parts = false

-- the kind of channel that a word names
abbrev pub kind_in : List ℕ → Option Kind
kind_in word = if bytes_eq word (codes "packet") then Some kind.Packet else if bytes_eq word (codes "scalar") then Some kind.Scalar else None

-- the size of a scalar with this many bits
abbrev pub bits_of : ℕ → Option Bits
bits_of n = if n == 8 then Some B8 else if n == 16 then Some B16 else if n == 32 then Some B32 else if n == 64 then Some B64 else None

-- the most requests of one wait
abbrev pub group_limit : ℕ
group_limit = 8

-- labels with commas between them: 44 is the comma
abbrev pub are_labels : List (List ℕ) → Bool
are_labels words = list_all is_label words && nat_le (length words) group_limit

-- the form of a word. A name has two colons, whatever stands between them: 58 is the colon
abbrev pub argument_fits : ArgumentKind → List ℕ → Bool
argument_fits Name word = are_three (parts_at 58 word)
argument_fits ChannelKind word = is_some (kind_in word)
argument_fits RequestLabel word = is_label word
argument_fits RequestLabels word = are_labels (parts_at 44 word)
argument_fits PacketLabel word = is_label word
argument_fits kind word = true

abbrev pub name_numerals : List (List ℕ) → List Numeral
name_numerals (d ∷ n ∷ p ∷ []) = numeral 0 last_domain d ∷ numeral 0 last_node n ∷ numeral 0 65535 p ∷ []
name_numerals parts = []

-- what has to be a number in it. `bits` is what the argument before it sets
abbrev pub argument_numerals : ArgumentKind → (bits : ℕ) → List ℕ → List Numeral
argument_numerals Port bits word = numeral 0 65535 word ∷ []
argument_numerals Name bits word = name_numerals (parts_at 58 word)
argument_numerals Priority bits word = numeral 0 last_priority word ∷ []
argument_numerals Maximum bits word = numeral 0 asked_limit word ∷ []
argument_numerals ScalarBits bits word = record { admits = λ n. is_some (bits_of n); word = word } ∷ []
argument_numerals ScalarValue bits word = numeral 0 (2 ^ bits - 1) word ∷ []
argument_numerals Limit bits word = numeral 0 try_limit word ∷ []
argument_numerals PeerDomain bits word = numeral 0 last_domain word ∷ []
argument_numerals kind bits word = []

-- what has to be bytes in it
abbrev pub argument_contents : ArgumentKind → List ℕ → List Bytes
argument_contents Content word = content 0 asked_limit word ∷ []
argument_contents RawFrame word = content 1 longest_frame word ∷ []
argument_contents kind word = []

-- calls that create a request, which can be tested and cancelled
abbrev pub gives_request : Call → Bool
gives_request (Lookup name) = true
gives_request (MsgRecvI port max) = true
gives_request (Connect port to kind) = true
gives_request (PktRecvI port) = true
gives_request call = false

-- calls that lend a packet, now or by their request, which can be released
abbrev pub gives_packet : Call → Bool
gives_packet (PktRecv port) = true
gives_packet (PktRecvI port) = true
gives_packet call = false

-- a label that a call names, and the calls of which it may be
pub record NamedLabel : Type 0 where
  pub may_be_of : Call → Bool
  pub word : List ℕ

abbrev pub request_label : List ℕ → NamedLabel
request_label word = record { may_be_of = gives_request; word = word }

-- the labels that an argument names
abbrev pub argument_labels : ArgumentKind → List ℕ → List NamedLabel
argument_labels RequestLabel word = request_label word ∷ []
argument_labels RequestLabels word = map request_label (parts_at 44 word)
argument_labels PacketLabel word = record { may_be_of = gives_packet; word = word } ∷ []
argument_labels kind word = []

-- the name of three parts
abbrev pub name_from : List (List ℕ) → EndName
name_from (d ∷ n ∷ p ∷ []) = record { domain = number d; node = number n; port = number p }
name_from parts = record { domain = 0; node = 0; port = 0 }

abbrev pub name_in : List ℕ → EndName
name_in word = name_from (parts_at 58 word)

abbrev pub label_of : List ℕ → ArrayVec ℕ
label_of word = record { items = word }

-- the value of a word that has the form, the numbers and the bytes of its kind
abbrev pub value : (kind : ArgumentKind) → List ℕ → Value kind
value Port word = number word
value Name word = name_in word
value Priority word = number word
value Content word = bytes word
value Maximum word = number word
value ChannelKind word = unwrap_or (kind_in word) kind.Packet
value ScalarBits word = unwrap_or (bits_of (number word)) B64
value ScalarValue word = number word
value RequestLabel word = label_of word
value RequestLabels word = record { items = map label_of (parts_at 44 word) }
value PacketLabel word = label_of word
value Limit word = number word
value PeerDomain word = number word
value RawFrame word = bytes word

-- ---- calls

-- the arguments of a call
abbrev pub Values : List ArgumentKind → Type 0
Values [] = Unit {0}
Values (k ∷ ks) = Value k × Values ks

-- a function that makes a call of arguments
abbrev pub Makes : List ArgumentKind → Type 0
Makes [] = Call
Makes (k ∷ ks) = Value k → Makes ks

abbrev pub made : (kinds : List ArgumentKind) → Makes kinds → Values kinds → Call
made [] call arguments = call
made (k ∷ ks) makes arguments = made ks (makes arguments.0) arguments.1

-- a form of call: its word, its arguments in their order, whether it needs a label, whether it may be tried more than once,
-- and the call that it makes
pub record CallForm : Type 0 where
  pub word : List ℕ
  pub arguments : List ArgumentKind
  pub labelled : Bool
  pub tried : Bool
  pub makes : Makes arguments

abbrev pub row : (word : List ℕ) (arguments : List ArgumentKind) (labelled tried : Bool) → Makes arguments → CallForm
row word arguments labelled tried makes = record { word = word; arguments = arguments; labelled = labelled; tried = tried; makes = makes }

abbrev no_label : Bool
no_label = false

abbrev a_label : Bool
a_label = true

abbrev may_try : Bool
may_try = true

abbrev one_try : Bool
one_try = false

-- the table of calls
abbrev pub form : Callee → CallForm
form callee.Create = row (codes "create") (Port ∷ []) no_label may_try Create
form callee.Delete = row (codes "delete") (Port ∷ []) no_label may_try Delete
form callee.Lookup = row (codes "lookup") (Name ∷ []) a_label may_try Lookup
form callee.MsgSend = row (codes "msg_send") (Port ∷ Name ∷ Priority ∷ Content ∷ []) no_label may_try MsgSend
form callee.MsgRecv = row (codes "msg_recv") (Port ∷ Maximum ∷ []) no_label may_try MsgRecv
form callee.MsgRecvI = row (codes "msg_recv_i") (Port ∷ Maximum ∷ []) a_label may_try MsgRecvI
form callee.MsgAvailable = row (codes "msg_available") (Port ∷ []) no_label may_try MsgAvailable
form callee.Connect = row (codes "connect") (Port ∷ Name ∷ ChannelKind ∷ []) a_label may_try Connect
form callee.OpenSend = row (codes "open_send") (Port ∷ ChannelKind ∷ []) no_label may_try OpenSend
form callee.OpenRecv = row (codes "open_recv") (Port ∷ ChannelKind ∷ []) no_label may_try OpenRecv
form callee.PktSend = row (codes "pkt_send") (Port ∷ Content ∷ []) no_label may_try PktSend
form callee.PktRecv = row (codes "pkt_recv") (Port ∷ []) a_label may_try PktRecv
form callee.PktRecvI = row (codes "pkt_recv_i") (Port ∷ []) a_label may_try PktRecvI
form callee.Release = row (codes "release") (PacketLabel ∷ []) no_label may_try Release
form callee.SclSend = row (codes "scl_send") (Port ∷ ScalarBits ∷ ScalarValue ∷ []) no_label may_try SclSend
form callee.SclRecv = row (codes "scl_recv") (Port ∷ ScalarBits ∷ []) no_label may_try SclRecv
form callee.CloseSend = row (codes "close_send") (Port ∷ []) no_label may_try CloseSend
form callee.CloseRecv = row (codes "close_recv") (Port ∷ []) no_label may_try CloseRecv
form callee.Test = row (codes "test") (RequestLabel ∷ []) no_label may_try Test
form callee.Wait = row (codes "wait") (RequestLabel ∷ Limit ∷ []) no_label one_try Wait
form callee.WaitAny = row (codes "wait_any") (RequestLabels ∷ Limit ∷ []) no_label one_try WaitAny
form callee.Cancel = row (codes "cancel") (RequestLabel ∷ []) no_label may_try Cancel
form callee.Raw = row (codes "raw") (PeerDomain ∷ RawFrame ∷ []) no_label may_try Raw
form callee.Turn = row (codes "turn") [] no_label may_try Turn

abbrev pub callees : List Callee
callees =
    callee.Create
    ∷ callee.Delete
    ∷ callee.Lookup
    ∷ callee.MsgSend
    ∷ callee.MsgRecv
    ∷ callee.MsgRecvI
    ∷ callee.MsgAvailable
    ∷ callee.Connect
    ∷ callee.OpenSend
    ∷ callee.OpenRecv
    ∷ callee.PktSend
    ∷ callee.PktRecv
    ∷ callee.PktRecvI
    ∷ callee.Release
    ∷ callee.SclSend
    ∷ callee.SclRecv
    ∷ callee.CloseSend
    ∷ callee.CloseRecv
    ∷ callee.Test
    ∷ callee.Wait
    ∷ callee.WaitAny
    ∷ callee.Cancel
    ∷ callee.Raw
    ∷ callee.Turn
    ∷ []

abbrev pub callee_among : List Callee → List ℕ → Option Callee
callee_among [] word = None
callee_among (c ∷ cs) word = if bytes_eq word (form c).word then Some c else callee_among cs word

-- the call with this word
abbrev pub callee_of : List ℕ → Option Callee
callee_of word = callee_among callees word

-- ---- lines

-- the parts of a call line: D.N, the label and the number of tries where the line has them, and the arguments
pub record CallParts : Type 0 where
  pub domain : List ℕ
  pub node : List ℕ
  pub told : Option (List ℕ)
  pub tries : Option (List ℕ)
  pub callee : Callee
  pub arguments : List (List ℕ)

-- the parts of a line, of which each is still a word
pub data LineParts : Type 0 where
  no_parts : LineParts
  domain_parts : (domain nodes pool : List ℕ) → LineParts
  link_parts : (driver device size : List ℕ) → LineParts
  call_parts : CallParts → LineParts

-- domain D nodes N pool P
abbrev pub domain_form : List (List ℕ) → Option LineParts
domain_form (d ∷ v ∷ n ∷ p ∷ q ∷ []) = if bytes_eq v (codes "nodes") && bytes_eq p (codes "pool") then Some (domain_parts d n q) else None
domain_form words = None

-- link A B size Q
abbrev pub link_form : List (List ℕ) → Option LineParts
link_form (a ∷ b ∷ v ∷ q ∷ []) = if bytes_eq v (codes "size") then Some (link_parts a b q) else None
link_form words = None

-- the word in front of `=`, if there is one, and the words after it
abbrev pub told_at : List (List ℕ) → Option (List ℕ) × List (List ℕ)
told_at (w ∷ v ∷ ws) = if bytes_eq v (codes "=") then (Some w, ws) else (None, w ∷ v ∷ ws)
told_at words = (None, words)

-- the word after `try`, if there is one, and the words after it
abbrev pub tries_at : List (List ℕ) → Option (List ℕ) × List (List ℕ)
tries_at (w ∷ v ∷ ws) = if bytes_eq w (codes "try") then (Some v, ws) else (None, w ∷ v ∷ ws)
tries_at words = (None, words)

-- a label where the form needs one, and no other word in its place
abbrev pub told_fits : Bool → Option (List ℕ) → Bool
told_fits true None = false
told_fits false None = true
told_fits labelled (Some word) = is_label word

-- a number of tries only where the form allows one
abbrev pub tries_fit : Bool → Option (List ℕ) → Bool
tries_fit tried None = true
tries_fit tried (Some word) = tried

abbrev pub arguments_fit : List ArgumentKind → List (List ℕ) → Bool
arguments_fit [] [] = true
arguments_fit [] (w ∷ ws) = false
arguments_fit (k ∷ ks) [] = false
arguments_fit (k ∷ ks) (w ∷ ws) = argument_fits k w && arguments_fit ks ws

abbrev pub fits : CallParts → Bool
fits c = told_fits (form c.callee).labelled c.told && (tries_fit (form c.callee).tried c.tries && arguments_fit (form c.callee).arguments c.arguments)

abbrev pub if_fits : CallParts → Option LineParts
if_fits c = if fits c then Some (call_parts c) else None

abbrev pub call_of : (domain node : List ℕ) → (told tries : Option (List ℕ)) → (arguments : List (List ℕ)) → Option Callee → Option LineParts
call_of domain node told tries arguments None = None
call_of domain node told tries arguments (Some c) = if_fits (record { domain = domain; node = node; told = told; tries = tries; callee = c; arguments = arguments })

abbrev pub callee_form : (domain node : List ℕ) → (told tries : Option (List ℕ)) → List (List ℕ) → Option LineParts
callee_form domain node told tries [] = None
callee_form domain node told tries (word ∷ arguments) = call_of domain node told tries arguments (callee_of word)

abbrev pub tries_form : (domain node : List ℕ) → Option (List ℕ) → Option (List ℕ) × List (List ℕ) → Option LineParts
tries_form domain node told read = callee_form domain node told read.0 read.1

abbrev pub told_form : (domain node : List ℕ) → Option (List ℕ) × List (List ℕ) → Option LineParts
told_form domain node read = tries_form domain node read.0 (tries_at read.1)

-- D.N [label =] [try K] call arguments
abbrev pub call_form : List (List ℕ) → List (List ℕ) → Option LineParts
call_form (d ∷ n ∷ []) words = told_form d n (told_at words)
call_form caller words = None

-- 46 is the dot
abbrev pub spoken : List ℕ → List (List ℕ) → Option LineParts
spoken word words = if bytes_eq word (codes "domain") then domain_form words else if bytes_eq word (codes "link") then link_form words else call_form (parts_at 46 word) words

-- the parts of a line that fits a form, by its words
abbrev pub parts_of : List (List ℕ) → Option LineParts
parts_of [] = Some no_parts
parts_of (w ∷ ws) = if says_nothing (w ∷ ws) then Some no_parts else spoken w ws

-- the words that have to be numbers
abbrev pub arguments_numerals : List ArgumentKind → (bits : ℕ) → List (List ℕ) → List Numeral
arguments_numerals (k ∷ ks) bits (w ∷ ws) = argument_numerals k bits w ++ arguments_numerals ks (bits_told k (value k w)) ws
arguments_numerals kinds bits words = []

abbrev pub tries_numerals : Option (List ℕ) → List Numeral
tries_numerals None = []
tries_numerals (Some word) = numeral 1 try_limit word ∷ []

abbrev pub numerals : LineParts → List Numeral
numerals no_parts = []
numerals (domain_parts d n p) = numeral 0 last_domain d ∷ numeral 1 node_limit n ∷ numeral 1 pool_limit p ∷ []
numerals (link_parts a b q) = numeral 0 last_domain a ∷ numeral 0 last_domain b ∷ numeral 0 18446744073709551615 q ∷ []
numerals (call_parts c) = numeral 0 last_domain c.domain ∷ numeral 0 last_node c.node ∷ (tries_numerals c.tries ++ arguments_numerals (form c.callee).arguments 0 c.arguments)

-- the words that have to be bytes
abbrev pub arguments_contents : List ArgumentKind → List (List ℕ) → List Bytes
arguments_contents (k ∷ ks) (w ∷ ws) = argument_contents k w ++ arguments_contents ks ws
arguments_contents kinds words = []

abbrev pub contents : LineParts → List Bytes
contents (call_parts c) = arguments_contents (form c.callee).arguments c.arguments
contents parts = []

-- the labels that a call names
abbrev pub arguments_labels : List ArgumentKind → List (List ℕ) → List NamedLabel
arguments_labels (k ∷ ks) (w ∷ ws) = argument_labels k w ++ arguments_labels ks ws
arguments_labels kinds words = []

-- what a line says
pub data Statement : Type 0 where
  says_none : Statement
  says_domain : DomainLine → Statement
  says_link : LinkLine → Statement
  says_call : CallLine → Statement

-- what the words of arguments say
abbrev pub values : (kinds : List ArgumentKind) → List (List ℕ) → Values kinds
values [] words = tt
values (k ∷ ks) [] = (value k [], values ks [])
values (k ∷ ks) (w ∷ ws) = (value k w, values ks ws)

abbrev pub call_made : Callee → List (List ℕ) → Call
call_made c words = made (form c).arguments (form c).makes (values (form c).arguments words)

abbrev pub call_line : CallParts → CallLine
call_line c = record { domain = number c.domain; node = number c.node; label = option_map label_of c.told; tries = option_map number c.tries; call = call_made c.callee c.arguments }

abbrev pub statement : LineParts → Statement
statement no_parts = says_none
statement (domain_parts d n p) = says_domain (record { domain = number d; nodes = number n; pool = number p })
statement (link_parts a b q) = says_link (record { driver = number a; device = number b; size = number q })
statement (call_parts c) = says_call (call_line c)
