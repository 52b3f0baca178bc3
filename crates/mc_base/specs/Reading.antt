-- What a frame says: that it has a fault, an announcement, or a letter.
-- Source: docs/FORMATS.md. A frame is read once as one of the three, and all that a domain does with it hangs on that alone.
use Rattle.std.specs.Prelude.{ℕ, Bool, true, ◌==◌, List, Option, Some, None, drop, if◌then◌else◌}
use Rattle.mc_base.specs.Limits.{name_service_address}
use Rattle.mc_base.specs.Bytes.{number_at}
use Rattle.mc_base.specs.Frame.{source_of, destination_of, payload_of}
use Rattle.mc_base.specs.Fault.{fault}
use Rattle.mc_base.specs.Letter.{Fields, Piece, piece, Saying, whole, in_part, Carrier, of_message, of_packet, PlainLetter, msg, connect, accept, reject, recv_open, send_open, packet, scalar, send_close, recv_close}
use Rattle.mc_base.specs.LetterFaults.{fields_in, total_in, offset_in}
use Rattle.mc_base.specs.Announcement.{name_in, flags_of}
use Rattle.mc_base.specs.declared.fault.Fault.{Fault}
use Rattle.mc_base.specs.declared.channel.Kind.{Kind}
use Rattle.mc_base.specs.declared.channel.Kind.TheVariants.{Packet, Scalar}
use Rattle.mc_base.specs.declared.channel.Reason.{Reason}
use Rattle.mc_base.specs.declared.channel.Reason.TheVariants.{NoEndpoint, Connected, Busy}
use Rattle.mc_base.specs.declared.channel.Bits.{Bits}
use Rattle.mc_base.specs.declared.channel.Bits.TheVariants.{B8, B16, B32, B64}

-- the first fault of the frame; a name, its address, and whether it is there or gone; or a source, a destination and a letter, or a part
-- of one
pub data Reading : Type 0 where
  is_faulty : Fault → Reading
  announces : List ℕ → ℕ → Bool → Reading
  says : ℕ → ℕ → PlainLetter → Reading
  brings : ℕ → ℕ → Piece → Reading

-- the kind of channel, the reason and the bits that a number stands for
abbrev pub kind_numbered : ℕ → Kind
kind_numbered n = if n == 0 then Packet else Scalar

abbrev pub reason_numbered : ℕ → Reason
reason_numbered n = if n == 1 then NoEndpoint else (if n == 2 then Connected else Busy)

abbrev pub bits_of_bytes : ℕ → Bits
bits_of_bytes n = if n == 1 then B8 else (if n == 2 then B16 else (if n == 4 then B32 else B64))

-- the letter of fields without a fault, by their kind
abbrev pub letter_of : Fields → PlainLetter
letter_of f =
    if f.kind == 1 then msg f.argument f.content
    else (if f.kind == 2 then connect f.channel (kind_numbered f.argument)
    else (if f.kind == 3 then accept f.channel
    else (if f.kind == 4 then reject f.channel (reason_numbered f.argument)
    else (if f.kind == 5 then recv_open f.channel
    else (if f.kind == 6 then send_open f.channel
    else (if f.kind == 7 then packet f.channel f.content
    else (if f.kind == 8 then scalar f.channel (bits_of_bytes f.argument) (number_at 0 f.argument f.content)
    else (if f.kind == 9 then send_close f.channel
    else recv_close f.channel))))))))

-- the part that fields of version 2 say
abbrev pub carrier_of : Fields → Carrier
carrier_of f = if f.kind == 1 then of_message f.argument else of_packet f.channel

abbrev pub piece_of : Fields → Piece
piece_of f = piece (carrier_of f) (total_in f) (offset_in f) (drop 4 f.content)

-- what a frame to an endpoint says, by what its payload says
abbrev pub says_so : ℕ → ℕ → Saying → Reading
says_so source destination (whole l) = says source destination l
says_so source destination (in_part p) = brings source destination p

-- what the fields of a letter say
abbrev pub said_in : ℕ → ℕ → Fields → Reading
said_in source destination f = if f.version == 2 then brings source destination (piece_of f) else says source destination (letter_of f)

-- what a sound frame announces
abbrev pub announced_in : List ℕ → Reading
announced_in payload = announces (name_in payload) (number_at 32 4 payload) (number_at 36 4 payload == flags_of true)

-- a frame with a fault is faulty; else one to the name service announces, and any other says a letter
abbrev pub reading_by : Option Fault → List ℕ → Reading
reading_by (Some f) frame = is_faulty f
reading_by None frame =
    if destination_of frame == name_service_address
    then announced_in (payload_of frame)
    else said_in (source_of frame) (destination_of frame) (fields_in (payload_of frame))

-- what a frame says
unfoldable pub reading : List ℕ → Reading
reading frame = reading_by (fault frame) frame
