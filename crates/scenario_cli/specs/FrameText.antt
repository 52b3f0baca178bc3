-- What is told of a frame: its addresses and its content where it is sound, and else the place and the reason.
-- Source: docs/FORMATS.md, "Text of a frame" and "Faults of a frame".
use Rattle.std.specs.Prelude.{◌≡◌, ◌≢◌, ℕ, ◌*◌, Bool, List, [], ◌∷◌, ◌++◌, codes, decimal, Option, Some, None, option_map, if◌then◌else◌}
use Rattle.mc_base.specs.Limits.{name_service_address}
use Rattle.mc_base.specs.Text.{hex_text}
use Rattle.mc_base.specs.Frame.{IsFrame}
use Rattle.mc_base.specs.Fault.{faults}
use Rattle.mc_base.specs.FaultRow.{FaultRow, first}
use Rattle.mc_base.specs.Announcement.{IsNs}
use Rattle.mc_base.specs.Letter.{PlainLetter, msg, connect, accept, reject, recv_open, send_open, packet, scalar, send_close, recv_close, bytes_of_bits, Carrier, of_message, of_packet, Piece, Saying, whole, in_part, IsSaying}
use Rattle.mc_base.specs.declared.fault.Fault.{Fault}
use Rattle.board_model.specs.Grammar.{kind_text, line_of}
use Rattle.board_model.specs.Dealing.{fault_word}
use Rattle.board_model.specs.Words.{fate_text, reason_text}
use Rattle.scenario_cli.specs.Hex.{hex_fault, bytes_spelled}
use Rattle.scenario_cli.specs.WrongText.{wrong_line}

-- the words of a letter
abbrev pub letter_words : PlainLetter → List (List ℕ)
letter_words (msg priority bytes) = codes "msg" ∷ decimal priority ∷ hex_text bytes ∷ []
letter_words (connect channel kind) = codes "connect" ∷ decimal channel ∷ kind_text kind ∷ []
letter_words (accept channel) = codes "accept" ∷ decimal channel ∷ []
letter_words (reject channel reason) = codes "reject" ∷ decimal channel ∷ reason_text reason ∷ []
letter_words (recv_open channel) = codes "recv_open" ∷ decimal channel ∷ []
letter_words (send_open channel) = codes "send_open" ∷ decimal channel ∷ []
letter_words (packet channel bytes) = codes "packet" ∷ decimal channel ∷ hex_text bytes ∷ []
letter_words (scalar channel bits value) = codes "scalar" ∷ decimal channel ∷ decimal (8 * bytes_of_bits bits) ∷ decimal value ∷ []
letter_words (send_close channel) = codes "send_close" ∷ decimal channel ∷ []
letter_words (recv_close channel) = codes "recv_close" ∷ decimal channel ∷ []

-- the words of a part: as those of its message or packet, with the bytes that the whole has and those that come before
abbrev pub carrier_words : Carrier → List (List ℕ)
carrier_words (of_message priority) = codes "msg_part" ∷ decimal priority ∷ []
carrier_words (of_packet channel) = codes "packet_part" ∷ decimal channel ∷ []

abbrev pub part_words : Piece → List (List ℕ)
part_words p = carrier_words p.carrier ++ decimal p.total ∷ decimal p.offset ∷ hex_text p.content ∷ []

abbrev pub saying_words : Saying → List (List ℕ)
saying_words (whole l) = letter_words l
saying_words (in_part p) = part_words p

-- the words of an announcement; the name is told as its bytes
abbrev pub announcement_words : List ℕ → ℕ → Bool → List (List ℕ)
announcement_words name address create = codes "name" ∷ (if create then codes "create" else codes "destroy") ∷ name ∷ decimal address ∷ []

-- the line of a sound frame
abbrev pub right_line : ℕ → ℕ → List (List ℕ) → List ℕ
right_line src dst words = line_of (codes "right" ∷ decimal src ∷ decimal dst ∷ words)

-- the line is that of what the frame says
pub data IsFrameText (frame line : List ℕ) : Type 0 where
  of_letter : (src dst : ℕ) (payload : List ℕ) (s : Saying) → IsFrame frame src dst payload → dst ≢ name_service_address → IsSaying payload s → line ≡ right_line src dst (saying_words s) → IsFrameText frame line
  of_announcement : (src : ℕ) (payload name : List ℕ) (address : ℕ) (create : Bool) → IsFrame frame src name_service_address payload → IsNs payload name address create → line ≡ right_line src name_service_address (announcement_words name address create) → IsFrameText frame line

abbrev pub fault_line : FaultRow Fault → List ℕ
fault_line r = wrong_line r.place (fate_text (fault_word r.fault))

-- what is wrong with a frame: its first fault
abbrev pub frame_wrong : List ℕ → Option (List ℕ)
frame_wrong frame = option_map fault_line (first (faults frame))

abbrev pub wrong_by : Option ℕ → List ℕ → Option (List ℕ)
wrong_by (Some place) frame = Some (wrong_line place (codes "hex"))
wrong_by None frame = frame_wrong frame

-- what is wrong with a text that is to be a frame in hexadecimal, or none where it is a sound frame
abbrev pub wrong_in : List ℕ → Option (List ℕ)
wrong_in text = wrong_by (hex_fault text) (bytes_spelled text)

-- the text is a sound frame, and the line tells it
pub record TellsRight (text line : List ℕ) : Type 0 where
  pub sound : wrong_in text ≡ None
  pub told : IsFrameText (bytes_spelled text) line

-- the text is no sound frame, and the line tells the first fault and its place
abbrev pub TellsWrong : List ℕ → List ℕ → Type 0
TellsWrong text line = wrong_in text ≡ Some line
