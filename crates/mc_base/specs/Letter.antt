-- Letters: what the payload of a frame to an endpoint says.
-- Source: the payload header of docs/FORMATS.md: magic, version, kind, argument (1 byte each), channel (4 bytes), and then the content.
use Rattle.std.specs.Prelude.{◌≡◌, ℕ, ◌+◌, ◌*◌, ◌<◌, ◌≤◌, ◌^◌, List, [], ◌∷◌, ◌++◌, length, Option, Some, None}
use Rattle.byteorder.specs.Endian.{little_bytes}
use Rattle.mc_base.specs.Limits.{single_size, item_size, piece_size, last_priority}
use Rattle.mc_base.specs.declared.channel.Kind.{Kind}
use Rattle.mc_base.specs.declared.channel.Kind.TheVariants.{Packet, Scalar}
use Rattle.mc_base.specs.declared.channel.Reason.{Reason}
use Rattle.mc_base.specs.declared.channel.Reason.TheVariants.{NoEndpoint, Connected, Busy}
use Rattle.mc_base.specs.declared.channel.Bits.{Bits}
use Rattle.mc_base.specs.declared.channel.Bits.TheVariants.{B8, B16, B32, B64}
use Rattle.mc_base.specs.declared.letter.Letter.{Letter}
use Rattle.mc_base.specs.declared.letter.Letter.TheVariants as letter

-- a letter, apart from where its bytes lie. Channels are told by number
pub data PlainLetter : Type 0 where
  msg : ℕ → List ℕ → PlainLetter
  connect : ℕ → Kind → PlainLetter
  accept : ℕ → PlainLetter
  reject : ℕ → Reason → PlainLetter
  recv_open : ℕ → PlainLetter
  send_open : ℕ → PlainLetter
  packet : ℕ → List ℕ → PlainLetter
  scalar : ℕ → Bits → ℕ → PlainLetter
  send_close : ℕ → PlainLetter
  recv_close : ℕ → PlainLetter

-- what a letter of the code says, and of a part the letter that its bytes alone would be
abbrev pub plain_letter : Letter → PlainLetter
plain_letter (letter.Msg priority bytes) = msg priority bytes.now
plain_letter (letter.Connect channel kind) = connect channel kind
plain_letter (letter.Accept channel) = accept channel
plain_letter (letter.Reject channel reason) = reject channel reason
plain_letter (letter.RecvOpen channel) = recv_open channel
plain_letter (letter.SendOpen channel) = send_open channel
plain_letter (letter.Packet channel bytes) = packet channel bytes.now
plain_letter (letter.Scalar channel bits value) = scalar channel bits value
plain_letter (letter.SendClose channel) = send_close channel
plain_letter (letter.RecvClose channel) = recv_close channel
plain_letter (letter.MsgPart priority total offset bytes) = msg priority bytes.now
plain_letter (letter.PacketPart channel total offset bytes) = packet channel bytes.now

-- the numbers that stand for a kind of channel, a reason, and a size of scalar (its bytes)
abbrev pub kind_number : Kind → ℕ
kind_number Packet = 0
kind_number Scalar = 1

abbrev pub reason_number : Reason → ℕ
reason_number NoEndpoint = 1
reason_number Connected = 2
reason_number Busy = 3

abbrev pub bytes_of_bits : Bits → ℕ
bytes_of_bits B8 = 1
bytes_of_bits B16 = 2
bytes_of_bits B32 = 4
bytes_of_bits B64 = 8

-- the fields of a payload after magic
pub record Fields : Type 0 where
  pub version : ℕ
  pub kind : ℕ
  pub argument : ℕ
  pub channel : ℕ
  pub content : List ℕ

abbrev pub fields : ℕ → ℕ → ℕ → ℕ → List ℕ → Fields
fields version kind argument channel content = record { version = version; kind = kind; argument = argument; channel = channel; content = content }

-- the fields of a letter of version 1
abbrev pub version_1 : ℕ → ℕ → ℕ → List ℕ → Fields
version_1 = fields 1

-- the table of letters: the fields of each
abbrev pub fields_of : PlainLetter → Fields
fields_of (msg priority bytes) = version_1 1 priority 0 bytes
fields_of (connect channel kind) = version_1 2 (kind_number kind) channel []
fields_of (accept channel) = version_1 3 0 channel []
fields_of (reject channel reason) = version_1 4 (reason_number reason) channel []
fields_of (recv_open channel) = version_1 5 0 channel []
fields_of (send_open channel) = version_1 6 0 channel []
fields_of (packet channel bytes) = version_1 7 0 channel bytes
fields_of (scalar channel bits value) = version_1 8 (bytes_of_bits bits) channel (little_bytes (bytes_of_bits bits) value)
fields_of (send_close channel) = version_1 9 0 channel []
fields_of (recv_close channel) = version_1 10 0 channel []

-- magic and the fields
abbrev pub spelled : Fields → List ℕ
spelled f = 0x4d ∷ f.version ∷ f.kind ∷ f.argument ∷ (little_bytes 4 f.channel ++ f.content)

-- the one spelling of a letter
abbrev pub spelling : PlainLetter → List ℕ
spelling l = spelled (fields_of l)

-- a number of a channel: 32 bits, and not 0
abbrev pub IsChannel : ℕ → Type 0
IsChannel channel = (0 < channel) × (channel < 2 ^ 32)

-- the letters that have a spelling
abbrev pub HasSpelling : PlainLetter → Type 0
HasSpelling (msg priority bytes) = (priority ≤ last_priority) × (length bytes ≤ single_size)
HasSpelling (connect channel kind) = IsChannel channel
HasSpelling (accept channel) = IsChannel channel
HasSpelling (reject channel reason) = IsChannel channel
HasSpelling (recv_open channel) = IsChannel channel
HasSpelling (send_open channel) = IsChannel channel
HasSpelling (packet channel bytes) = IsChannel channel × (length bytes ≤ single_size)
HasSpelling (scalar channel bits value) = IsChannel channel × (value < 2 ^ (8 * bytes_of_bits bits))
HasSpelling (send_close channel) = IsChannel channel
HasSpelling (recv_close channel) = IsChannel channel

-- ---- parts of letters

-- what carries a message of this priority, or a packet of this channel, in parts
pub data Carrier : Type 0 where
  of_message : ℕ → Carrier
  of_packet : ℕ → Carrier

-- the whole letter
abbrev pub carried : Carrier → List ℕ → PlainLetter
carried (of_message priority) bytes = msg priority bytes
carried (of_packet channel) bytes = packet channel bytes

-- a part: how many bytes the whole has, how many of them come before these, and these
pub record Piece : Type 0 where
  pub carrier : Carrier
  pub total : ℕ
  pub offset : ℕ
  pub content : List ℕ

abbrev pub piece : Carrier → ℕ → ℕ → List ℕ → Piece
piece carrier total offset content = record { carrier = carrier; total = total; offset = offset; content = content }

-- the fields of a part, of version 2: the two numbers (2 bytes each) stand before the bytes
abbrev pub carrier_fields : Carrier → List ℕ → Fields
carrier_fields (of_message priority) content = fields 2 1 priority 0 content
carrier_fields (of_packet channel) content = fields 2 7 0 channel content

abbrev pub fields_of_piece : Piece → Fields
fields_of_piece p = carrier_fields p.carrier (little_bytes 2 p.total ++ (little_bytes 2 p.offset ++ p.content))

abbrev pub piece_spelling : Piece → List ℕ
piece_spelling p = spelled (fields_of_piece p)

-- the parts that have a spelling: at least one byte, within the whole
abbrev pub IsCarrier : Carrier → Type 0
IsCarrier (of_message priority) = priority ≤ last_priority
IsCarrier (of_packet channel) = IsChannel channel

pub record HasPieceSpelling (p : Piece) : Type 0 where
  pub carries : IsCarrier p.carrier
  pub some : 0 < length p.content
  pub within : p.offset + length p.content ≤ p.total
  pub most : p.total ≤ item_size

-- ---- what a payload says

pub data Saying : Type 0 where
  whole : PlainLetter → Saying
  in_part : Piece → Saying

abbrev pub saying_fields : Saying → Fields
saying_fields (whole l) = fields_of l
saying_fields (in_part p) = fields_of_piece p

abbrev pub saying_text : Saying → List ℕ
saying_text s = spelled (saying_fields s)

abbrev pub CanBeSaid : Saying → Type 0
CanBeSaid (whole l) = HasSpelling l
CanBeSaid (in_part p) = HasPieceSpelling p

-- the payload says this
pub record IsSaying (payload : List ℕ) (s : Saying) : Type 0 where
  pub lawful : CanBeSaid s
  pub bytes : payload ≡ saying_text s

-- ---- letters of the code

-- the part that a letter is, where it is one
abbrev pub piece_in : Letter → Option Piece
piece_in (letter.MsgPart priority total offset bytes) = Some (piece (of_message priority) total offset bytes.now)
piece_in (letter.PacketPart channel total offset bytes) = Some (piece (of_packet channel) total offset bytes.now)
piece_in other = None

abbrev pub saying_by : Option Piece → PlainLetter → Saying
saying_by None l = whole l
saying_by (Some p) l = in_part p

abbrev pub saying_of : Letter → Saying
saying_of l = saying_by (piece_in l) (plain_letter l)

-- the one spelling of a letter
abbrev pub letter_text : Letter → List ℕ
letter_text l = saying_text (saying_of l)

-- the letters that a frame carries: of a part, as many bytes as it has room for
abbrev pub FitsFrame : Saying → Type 0
FitsFrame (whole l) = HasSpelling l
FitsFrame (in_part p) = HasPieceSpelling p × (length p.content ≤ piece_size)
