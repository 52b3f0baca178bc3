-- What a letter does at an end of a channel: the word, and the end that is left.
-- Source: the tables of `board_model`, `ChannelEnds`.
use Rattle.std.specs.Prelude.{ℕ, Bool, true, false, not, ◌||◌, List, [], ◌∷◌, Option, Some, None, option_map, if◌then◌else◌}
use Rattle.mc_base.specs.Letter.{PlainLetter, accept, reject, recv_open, send_open, packet, scalar, send_close, recv_close}
use Rattle.mc_base.specs.declared.channel.Kind.{Kind}
use Rattle.mc_base.specs.declared.name.Local.{Local}
use Rattle.mc_base.specs.declared.fate.Fate.{Fate}
use Rattle.mc_base.specs.declared.fate.Fate.TheVariants as fate
use Rattle.board_model.specs.State.{ChannelEnd, DomainState, Endpoint, Item, endpoint_of, one_waits}
use Rattle.board_model.specs.Change.{item_handed, item_queued}
use Rattle.board_model.specs.ChannelEnds.{is_closed, same_kind, sends_to, hears_from}
use Rattle.board_model.specs.Parts.{Came}
use Rattle.board_model.specs.TakenFrames.{Row, acting, channel_rows, connect_rows, item_of, last_row, letter_rows, message_rows, row}
use Rattle.report_replay.specs.declared.ends.Heard.{Heard}
use Rattle.report_replay.specs.declared.ends.Heard.TheVariants as heard
use Rattle.report_replay.specs.declared.way.Way.{Way}
use Rattle.report_replay.specs.Views.{end_of}

-- a letter from this peer is to this end
abbrev pub is_for : ℕ → ChannelEnd → PlainLetter → Bool
is_for peer c (accept number) = sends_to peer number c
is_for peer c (reject number reason) = sends_to peer number c
is_for peer c (recv_open number) = sends_to peer number c
is_for peer c (recv_close number) = sends_to peer number c
is_for peer c (send_open number) = hears_from peer number c
is_for peer c (packet number content) = hears_from peer number c
is_for peer c (scalar number bits value) = hears_from peer number c
is_for peer c (send_close number) = hears_from peer number c
is_for peer c other = false

abbrev pub word_at : Heard → Fate
word_at (heard.Acts left) = fate.Acted
word_at heard.Keeps = fate.Queued
word_at heard.Loses = fate.Closed
word_at heard.OutOfPlace = fate.State

abbrev pub left_by : ChannelEnd → Heard → Option ChannelEnd
left_by c (heard.Acts left) = option_map end_of left
left_by c heard.Keeps = Some c
left_by c heard.Loses = Some c
left_by c heard.OutOfPlace = Some c

-- the word of an item of this kind
abbrev pub word_of_data : Kind → ChannelEnd → Fate
word_of_data kind c = if not (same_kind c.kind kind) || c.far_closed then fate.State else (if is_closed c.stage then fate.Closed else fate.Queued)

-- ---- the rows of a letter that goes this way

-- frames of these names brought it, and no part is open after it
abbrev pub came_in : List ℕ → Came
came_in names = record { names = names; part = None }

abbrev pub letter_at : DomainState → Way → List ℕ → PlainLetter → List Row
letter_at s w names l = letter_rows s w.peer (came_in names) w.source w.destination (endpoint_of s w.destination) l

abbrev pub connect_at : DomainState → Way → ℕ → Kind → List Row
connect_at s w number kind = connect_rows s w.peer w.source w.destination (endpoint_of s w.destination) number kind

-- what it brings, as an item
abbrev pub item_by : Way → List ℕ → PlainLetter → Item
item_by w names l = item_of w.peer (came_in names) w.source l

-- of a message, and of a letter to an end, whatever letter it is, which bring this item
abbrev pub message_to : DomainState → Way → Option Endpoint → Item → List Row
message_to s w None i = last_row fate.NoEndpoint []
message_to s w (Some e) i = message_rows s w.destination e e.channel i

abbrev pub message_at : DomainState → Way → Item → List Row
message_at s w i = message_to s w (endpoint_of s w.destination) i

abbrev pub end_to : DomainState → Way → Option Endpoint → Item → PlainLetter → List Row
end_to s w None i l = last_row fate.NoEndpoint []
end_to s w (Some e) i l = channel_rows s w.peer w.destination e e.channel i l

abbrev pub end_at : DomainState → Way → Item → PlainLetter → List Row
end_at s w i l = end_to s w (endpoint_of s w.destination) i l

-- the row of an item that is kept at an endpoint: the oldest receive that waits there has it, or else the queue
abbrev pub kept : DomainState → ℕ → Local → Item → Row
kept s destination local i = if one_waits s local then row (one_waits s local) fate.Handed (item_handed destination i ∷ []) else row true fate.Queued (item_queued destination i ∷ [])

-- the row of a letter that is acted on
abbrev pub acted : ℕ → Option ChannelEnd → PlainLetter → Row
acted destination left l = row true fate.Acted (acting destination left l)
