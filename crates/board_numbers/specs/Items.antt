-- What the lines of journals tell of the items of a channel: those that its sender's domain put, those that came from there, and those
-- that were dropped, as they came or when their receiver closed.
-- Source: docs/FORMATS.md, "Journal text". A receiver's close has two lines: the frame of its RecvClose, and the answer with the number
-- of the items that it dropped.
use Rattle.std.specs.Prelude.{ℕ, ◌+◌, Bool, true, false, ◌&&◌, ◌==◌, List, [], ◌∷◌, length, Option, None, Some, if◌then◌else◌}
use Rattle.mc_base.specs.Letter.{Carrier, of_packet, Piece, Saying, whole, in_part, PlainLetter, packet, scalar, recv_close}
use Rattle.mc_base.specs.Reading.{Reading, says, brings, reading}
use Rattle.board_model.specs.Channels.{is_numbered, is_lost}
use Rattle.board_model.specs.Journal.{Line, put_line, take_line, call_line}
use Rattle.board_model.specs.Tallies.{number_told}

-- the number of the channel whose item a letter carries, and of the one whose receiver's end it closes
abbrev pub item_letter : PlainLetter → Option ℕ
item_letter (packet number content) = Some number
item_letter (scalar number bits value) = Some number
item_letter other = None

abbrev pub close_letter : PlainLetter → Option ℕ
close_letter (recv_close number) = Some number
close_letter other = None

-- an item that comes in parts is told at the last one
abbrev pub is_last : Piece → Bool
is_last q = q.offset + length q.content == q.total

-- what is said whole, or by its last part
abbrev pub ends_so : Saying → Bool
ends_so (whole l) = true
ends_so (in_part q) = is_last q

abbrev pub item_carrier : Carrier → Option ℕ
item_carrier (of_packet number) = Some number
item_carrier other = None

abbrev pub item_said : Reading → Option ℕ
item_said (says source destination l) = item_letter l
item_said (brings source destination q) = if is_last q then item_carrier q.carrier else None
item_said other = None

abbrev pub close_said : Reading → Option ℕ
close_said (says source destination l) = close_letter l
close_said other = None

abbrev pub carries_item : ℕ → List ℕ → Bool
carries_item number frame = is_numbered number (item_said (reading frame))

abbrev pub closes_channel : ℕ → List ℕ → Bool
closes_channel number frame = is_numbered number (close_said (reading frame))

-- an item of the domain's own channel is put; one comes from the owner of its channel; and it is dropped as it comes
abbrev pub is_item_put : ℕ → Line → Bool
is_item_put number (put_line peer frame) = carries_item number frame
is_item_put number other = false

abbrev pub is_item_taken : ℕ → ℕ → Line → Bool
is_item_taken owner number (take_line peer frame fate) = peer == owner && carries_item number frame
is_item_taken owner number other = false

abbrev pub is_item_lost : ℕ → ℕ → Line → Bool
is_item_lost owner number (take_line peer frame fate) = is_lost fate && (peer == owner && carries_item number frame)
is_item_lost owner number other = false

-- the receiver's end is closed by the call whose answer is the next line
abbrev pub is_close_put : ℕ → ℕ → Line → Bool
is_close_put owner number (put_line peer frame) = peer == owner && closes_channel number frame
is_close_put owner number other = false

-- the same of the frame of a line, which has one where a frame is put or taken
abbrev pub item_carried : Line → Option ℕ
item_carried (put_line peer frame) = item_said (reading frame)
item_carried (take_line peer frame fate) = item_said (reading frame)
item_carried other = None

abbrev pub close_carried : Line → Option ℕ
close_carried (put_line peer frame) = close_said (reading frame)
close_carried (take_line peer frame fate) = close_said (reading frame)
close_carried other = None

-- the number that the answer of a call tells
abbrev pub told_in : Line → ℕ
told_in (call_line k a) = number_told a
told_in other = 0

-- whether the last line closes the channel; where there is no line, whether the one before does
abbrev pub closing_last : ℕ → ℕ → Bool → List Line → Bool
closing_last owner number closing [] = closing
closing_last owner number closing (l ∷ ls) = closing_last owner number (is_close_put owner number l) ls

-- how many items closes dropped, in lines behind one that closes the channel or does not
abbrev pub closed_after : ℕ → ℕ → Bool → List Line → ℕ
closed_after owner number closing [] = 0
closed_after owner number closing (l ∷ ls) = (if closing then told_in l else 0) + closed_after owner number (is_close_put owner number l) ls
