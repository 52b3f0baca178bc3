-- What a domain does with a frame that it takes from a peer: for each thing that a frame may say, rows in their order, of which the
-- first that applies counts. A row has a condition, a word, and what happens.
-- Source: docs/PROFILE.md, "What a domain does with a taken frame". Except where queued, handed or held in a part, the buffer is given back at once.
use Rattle.std.specs.Prelude.{ℕ, Bool, true, false, not, ◌&&◌, ◌||◌, nat_le, List, [], ◌∷◌, ◌++◌, ◌==◌, length, Option, Some, None, is_some, is_none, if◌then◌else◌}
use Rattle.byteorder.specs.Endian.{little_bytes}
use Rattle.mc_base.specs.Letter.{PlainLetter, msg, connect, accept, reject, packet, scalar, send_close, bytes_of_bits}
use Rattle.std.specs.List.{flat_map}
use Rattle.mc_base.specs.Limits.{reply_limit}
use Rattle.mc_base.specs.NameMap.{Names, names_limit, learned, forgotten, address_in}
use Rattle.mc_base.specs.FullName.{endpoint_named}
use Rattle.mc_base.specs.Reading.{Reading, is_faulty, announces, says, brings}
use Rattle.mc_base.specs.declared.name.EndName.{EndName}
use Rattle.mc_base.specs.declared.fate.Fate.{Fate}
use Rattle.mc_base.specs.declared.fate.Fate.TheVariants as fate
use Rattle.mc_base.specs.declared.channel.Kind.{Kind}
use Rattle.mc_base.specs.declared.channel.Reason.{Reason}
use Rattle.mc_base.specs.declared.channel.Reason.TheVariants as reason
use Rattle.mc_base.specs.declared.refusal.Refusal.TheVariants.{ChanClosed}
use Rattle.board_model.specs.State.{Item, ChannelEnd, Endpoint, is_accepted, is_rejected, Reply, Peer, DomainState, endpoint_of, one_waits, peer_at}
use Rattle.board_model.specs.Change.{Change, channel_set, item_queued, item_handed, item_lost, waiting_ended, name_found, connect_settled, reply_owed, names_known}
use Rattle.board_model.specs.ChannelEnds.{accepted_end, end_rows}
use Rattle.board_model.specs.Dealing.{fault_word}
use Rattle.board_model.specs.Parts.{Came, came_from, said_from}

pub record Row : Type 0 where
  pub applies : Bool
  pub word : Fate
  pub happens : List Change

abbrev pub row : Bool → Fate → List Change → Row
row applies word happens = record { applies = applies; word = word; happens = happens }

-- the row where none before it applies
abbrev pub last_row : Fate → List Change → List Row
last_row word happens = row true word happens ∷ []

-- the first row that applies
abbrev pub first_row : List Row → Row
first_row [] = row true fate.State []
first_row (r ∷ []) = r
first_row (r ∷ q ∷ rs) = if r.applies then r else first_row (q ∷ rs)

-- ---- announcements by a peer, by the names that are known of it

abbrev pub names_of : Option Peer → Names
names_of None = []
names_of (Some p) = p.known

abbrev pub name_rows : ℕ → Names → Option EndName → ℕ → Bool → List Row
name_rows peer known None address there = last_row fate.ForeignName []
name_rows peer known (Some name) address true =
    row (not (name.domain == peer)) fate.ForeignName []
    ∷ row (not (is_some (address_in name known)) && nat_le names_limit (length known)) fate.NamesFull []
    ∷ last_row fate.Acted (names_known peer (learned name address known) ∷ name_found name address ∷ [])
name_rows peer known (Some name) address false =
    row (not (name.domain == peer)) fate.ForeignName []
    ∷ row (not (is_some (address_in name known))) fate.UnknownName []
    ∷ last_row fate.Acted (names_known peer (forgotten name known) ∷ [])

-- ---- a Connect, by the endpoint with its destination

abbrev pub replies_to : Option Peer → ℕ
replies_to None = 0
replies_to (Some p) = length p.replies

-- a reply goes back to where the Connect came from
abbrev pub reply_to : ℕ → ℕ → ℕ → Option Reason → Reply
reply_to source destination number reason = record { source = destination; destination = source; channel = number; reason = reason }

abbrev pub rejecting : ℕ → ℕ → ℕ → ℕ → Reason → List Change
rejecting peer source destination number reason = reply_owed peer (reply_to source destination number (Some reason)) ∷ []

-- the endpoint is the receiver of the channel from now on
abbrev pub accepting : ℕ → ℕ → ℕ → ℕ → Kind → List Change
accepting peer source destination number kind =
    channel_set destination (Some (accepted_end kind peer number peer source))
    ∷ reply_owed peer (reply_to source destination number None)
    ∷ []

abbrev pub is_busy : DomainState → Endpoint → Bool
is_busy s e = not (length e.queue == 0) || one_waits s e.local

abbrev pub connect_rows : DomainState → ℕ → ℕ → ℕ → Option Endpoint → ℕ → Kind → List Row
connect_rows s peer source destination None number kind =
    row (nat_le reply_limit (replies_to (peer_at s peer))) fate.RepliesFull []
    ∷ last_row fate.Owed (rejecting peer source destination number reason.NoEndpoint)
connect_rows s peer source destination (Some e) number kind =
    row (nat_le reply_limit (replies_to (peer_at s peer))) fate.RepliesFull []
    ∷ row (is_some e.channel) fate.Owed (rejecting peer source destination number reason.Connected)
    ∷ row (is_busy s e) fate.Owed (rejecting peer source destination number reason.Busy)
    ∷ last_row fate.Owed (accepting peer source destination number kind)

-- ---- other letters, by the endpoint with the letter's destination

-- a message or a channel's packet or scalar as an item, brought by the frames of these names
abbrev pub message_item : ℕ → Came → ℕ → ℕ → List ℕ → Item
message_item peer name source priority content = record { peer = peer; source = source; priority = priority; channel = None; content = content; frames = name.names }

abbrev pub channel_item : ℕ → Came → ℕ → ℕ → List ℕ → Item
channel_item peer name source number content = record { peer = peer; source = source; priority = 0; channel = Some number; content = content; frames = name.names }

abbrev pub item_of : ℕ → Came → ℕ → PlainLetter → Item
item_of peer name source (msg priority content) = message_item peer name source priority content
item_of peer name source (packet number content) = channel_item peer name source number content
item_of peer name source (scalar number bits value) = channel_item peer name source number (little_bytes (bytes_of_bits bits) value)
item_of peer name source other = message_item peer name source 0 []

abbrev pub message_rows : DomainState → ℕ → Endpoint → Option ChannelEnd → Item → List Row
message_rows s destination e (Some c) i = last_row fate.OnChannel []
message_rows s destination e None i =
    row (one_waits s e.local) fate.Handed (item_handed destination i ∷ [])
    ∷ last_row fate.Queued (item_queued destination i ∷ [])

-- what a letter does at the endpoint, by the channel that it leaves there
abbrev pub acting : ℕ → Option ChannelEnd → PlainLetter → List Change
acting destination left (accept number) = channel_set destination left ∷ connect_settled number is_accepted ∷ []
acting destination left (reject number reason) = channel_set destination left ∷ connect_settled number (is_rejected reason) ∷ []
acting destination left (send_close number) = waiting_ended destination ChanClosed ∷ channel_set destination left ∷ []
acting destination left other = channel_set destination left ∷ []

-- a row of the end's table as rows of the domain's: an item that is queued there is handed to the oldest receive that waits, and one that
-- comes after the close is lost
abbrev pub rows_by : DomainState → ℕ → Endpoint → Item → PlainLetter → Bool → Option ChannelEnd → Fate → List Row
rows_by s destination e i l applies left fate.Queued =
    row (applies && one_waits s e.local) fate.Handed (item_handed destination i ∷ [])
    ∷ row applies fate.Queued (item_queued destination i ∷ [])
    ∷ []
rows_by s destination e i l applies left fate.Acted = row applies fate.Acted (acting destination left l) ∷ []
rows_by s destination e i l applies left fate.Closed = row applies fate.Closed (item_lost destination i ∷ []) ∷ []
rows_by s destination e i l applies left word = row applies word [] ∷ []

abbrev pub channel_rows : DomainState → ℕ → ℕ → Endpoint → Option ChannelEnd → Item → PlainLetter → List Row
channel_rows s peer destination e None i l = last_row fate.State []
channel_rows s peer destination e (Some c) i l = flat_map (λ r. rows_by s destination e i l r.applies r.leaves r.word) (end_rows peer c l) ++ last_row fate.State []

abbrev pub letter_rows : DomainState → ℕ → Came → ℕ → ℕ → Option Endpoint → PlainLetter → List Row
letter_rows s peer name source destination to (connect number kind) = connect_rows s peer source destination to number kind
letter_rows s peer name source destination None l = last_row fate.NoEndpoint []
letter_rows s peer name source destination (Some e) (msg priority content) = message_rows s destination e e.channel (message_item peer name source priority content)
letter_rows s peer name source destination (Some e) l = channel_rows s peer destination e e.channel (item_of peer name source l) l

-- ---- all that a frame may say

abbrev pub rows : DomainState → ℕ → Came → Reading → List Row
rows s peer name (is_faulty f) = last_row (fault_word f) []
rows s peer name (announces text address there) = name_rows peer (names_of (peer_at s peer)) (endpoint_named text) address there
rows s peer name (says source destination l) = letter_rows s peer name source destination (endpoint_of s destination) l
rows s peer name (brings source destination q) =
    row (is_none name.part) fate.Stray []
    ∷ last_row fate.Part []

-- the row of what a frame from a peer says, with the frames that brought it
abbrev pub row_of : DomainState → ℕ → Came → Reading → Row
row_of s peer name r = first_row (rows s peer name r)

-- the row of a frame from a peer, with its name or none
abbrev pub row_from : DomainState → ℕ → Option ℕ → List ℕ → Row
row_from s peer name frame = row_of s peer (came_from s peer name frame) (said_from s peer frame)
