-- What is to be done with a frame that is taken, by the row that it has.
-- Source: docs/PROFILE.md, "What a domain does with a taken frame".
use Rattle.std.specs.Prelude.{◌≡◌, ℕ, ◌+◌, ◌≤◌, ◌<◌, Bool, true, false, List, [], ◌∷◌, ◌++◌, length, take, drop, position, slice_get, slice_index, Option, Some, None, option_map}
use Rattle.mc_base.specs.Limits.{item_size}
use Rattle.mc_base.specs.Frame.{source_of}
use Rattle.mc_base.specs.Letter.{PlainLetter, msg, packet, scalar, connect}
use Rattle.mc_base.specs.NameMap.{Names}
use Rattle.mc_base.specs.Reading.{Reading, reading}
use Rattle.mc_base.specs.declared.channel.Kind.{Kind}
use Rattle.mc_base.specs.declared.channel.Reason.{Reason}
use Rattle.mc_base.specs.declared.fate.Fate.{Fate}
use Rattle.mc_base.specs.declared.fate.Fate.TheVariants.{Queued, Handed}
use Rattle.mc_base.specs.declared.name.EndName.{EndName}
use Rattle.mc_base.specs.declared.name.Local.{Local}
use Rattle.mc_base.specs.declared.refusal.Refusal.TheVariants.{ChanClosed}
use Rattle.mc_base.specs.declared.request.RequestId.{RequestId}
use Rattle.board_model.specs.Change.{Change, channel_set, connect_settled, item_handed, item_queued, name_found, names_known, reply_owed, waiting_ended, item_lost}
use Rattle.board_model.specs.Dealing.{keeps_buffer}
use Rattle.board_model.specs.Parts.{Came, named_so}
use Rattle.board_model.specs.State.{DomainState, Endpoint, Item, Outcome, endpoint_of, has_address_of, is_accepted, is_rejected, peer_at, waits_at}
use Rattle.board_model.specs.TakenFrames as taken
use Rattle.board_model.specs.TakenFrames.{Row, connect_rows, first_row, letter_rows, names_of, replies_to, row, row_from}
use Rattle.buffer_book.specs.Book.{Book}
use Rattle.packet_channel.specs.End.{end_of}
use Rattle.packet_channel.specs.declared.channel.Channel.{Channel}
use Rattle.request_set.specs.declared.ask.Ask.{Ask}
use Rattle.request_set.specs.declared.ask.Complete.{Complete}
use Rattle.request_set.specs.declared.ask.Complete.TheVariants as complete
use Rattle.request_set.specs.Requests.{IsPending, Requests, is_id, oldest_waiting, receives_at, request_of}
use Rattle.domain_parts.specs.declared.dealing.Verdict.{Verdict}
use Rattle.domain_parts.specs.declared.dealing.Verdict.TheVariants as verdict
use Rattle.domain_parts.specs.declared.dealing.Way.{Way}
use Rattle.domain_parts.specs.declared.replies.Reply.{Reply}
use Rattle.domain_parts.specs.declared.requests.Waiters.TheVariants as waiters
use Rattle.domain_parts.specs.InBook.{channel_of, endpoints_in, priority_of, requests_in}
use Rattle.domain_parts.specs.InRequests.{with_all_complete}
use Rattle.domain_parts.specs.Peers.{reply_in}
use Rattle.domain_parts.specs.Records.{Records, with_channel_at}

-- what a frame that is taken may change beside its buffer: the endpoints, the requests, and the names and replies of its peer
pub record Desk : Type 0 where
  pub records : Records
  pub requests : Requests
  pub names : Names
  pub replies : List Reply

abbrev pub desk : Records → Requests → Names → List Reply → Desk
desk r q names replies = record { records = r; requests = q; names = names; replies = replies }

-- the same with any names
abbrev pub beside : Records → Requests → List Reply → Names → Desk
beside r q replies names = desk r q names replies

-- a state with these endpoints and requests, in which these names are known of a peer, and as many replies are owed to it
pub record Shows (s : DomainState) (peer : ℕ) (b : Book) (d : Desk) : Type 0 where
  pub endpoints : s.endpoints ≡ endpoints_in b d.records.endpoints
  pub requests : s.requests ≡ requests_in b d.requests.standing
  pub known : names_of (peer_at s peer) ≡ d.names
  pub owed : replies_to (peer_at s peer) ≡ length d.replies

-- ---- verdicts, by the row of the frame

-- an item is last in the queue at a place
pub record IsQueued (s : DomainState) (its : Row) (item : Item) (place : ℕ) : Type 0 where
  pub destination : ℕ
  pub applies : Bool
  pub row_is : its ≡ row applies Queued (item_queued destination item ∷ [])
  pub at : position (has_address_of destination) s.endpoints ≡ Some place
  pub within : place < length s.endpoints

-- a pending receive, which asks so, is complete with an item
pub record IsHanded (s : DomainState) (q : Requests) (its : Row) (item : Item) (id : RequestId) (a : Ask) : Type 0 where
  pub destination : ℕ
  pub applies : Bool
  pub row_is : its ≡ row applies Handed (item_handed destination item ∷ [])
  pub endpoint : Endpoint
  pub named : endpoint_of s destination ≡ Some endpoint
  pub waits : position (waits_at endpoint.local) s.requests ≡ position (is_id id) q.standing
  pub pending : IsPending q id
  pub asks : option_map (λ r. r.ask) (request_of q id) ≡ Some a
  pub receives : receives_at endpoint.local a ≡ true

-- ---- what else a frame does, whose buffer is given back

pub data Effect : Type 0 where
  nothing : Effect
  -- an item that comes to the endpoint with this address is lost
  loses : ℕ → Item → Effect
  -- these names are known of its peer from then on; and lookups of one are complete with its address
  tells : Names → Effect
  finds : Names → EndName → ℕ → Effect
  -- a reply is owed to its peer; and the endpoint at a place, which has this address, has this channel
  replies : Reply → Effect
  accepts : ℕ → ℕ → Channel → Reply → Effect
  -- the endpoint at a place, which has this address, has this channel or none; and connects on a channel are accepted, or rejected for a
  -- reason; or receives at its name end
  sets : ℕ → ℕ → Option Channel → Effect
  settles : ℕ → ℕ → Option Channel → ℕ → Option Reason → Effect
  ends : ℕ → ℕ → Option Channel → Local → Effect

abbrev pub settled : Option Reason → Complete
settled None = complete.Accepted
settled (Some reason) = complete.Rejected reason

abbrev pub outcome_by : Option Reason → Outcome
outcome_by None = is_accepted
outcome_by (Some reason) = is_rejected reason

abbrev pub left_at : ℕ → Option Channel → Change
left_at address c = channel_set address (option_map end_of c)

abbrev pub effect_changes : ℕ → Effect → List Change
effect_changes peer nothing = []
effect_changes peer (loses address i) = item_lost address i ∷ []
effect_changes peer (tells names) = names_known peer names ∷ []
effect_changes peer (finds names name address) = names_known peer names ∷ name_found name address ∷ []
effect_changes peer (replies r) = reply_owed peer (reply_in r) ∷ []
effect_changes peer (accepts place address c r) = left_at address (Some c) ∷ reply_owed peer (reply_in r) ∷ []
effect_changes peer (sets place address c) = left_at address c ∷ []
effect_changes peer (settles place address c number how) = left_at address c ∷ connect_settled number (outcome_by how) ∷ []
effect_changes peer (ends place address c at) = waiting_ended address ChanClosed ∷ left_at address c ∷ []

-- what it leaves
abbrev pub records_left : Effect → Records → Records
records_left (accepts place address c r) rs = with_channel_at rs place (Some c)
records_left (sets place address c) rs = with_channel_at rs place c
records_left (settles place address c number how) rs = with_channel_at rs place c
records_left (ends place address c at) rs = with_channel_at rs place c
records_left other rs = rs

abbrev pub requests_left : Effect → Requests → Requests
requests_left (finds names name address) q = with_all_complete q (waiters.Lookups name) (complete.Address address)
requests_left (settles place address c number how) q = with_all_complete q (waiters.Connects number) (settled how)
requests_left (ends place address c at) q = with_all_complete q (waiters.Receives at) (complete.Ended ChanClosed)
requests_left other q = q

abbrev pub names_left : Effect → Names → Names
names_left (tells names) ns = names
names_left (finds names name address) ns = names
names_left other ns = ns

abbrev pub replies_left : Effect → List Reply → List Reply
replies_left (replies r) rs = rs ++ r ∷ []
replies_left (accepts place address c r) rs = rs ++ r ∷ []
replies_left other rs = rs

abbrev pub left_by : Effect → Desk → Desk
left_by e d = desk (records_left e d.records) (requests_left e d.requests) (names_left e d.names) (replies_left e d.replies)

-- the endpoint with the address is at the place, and has this name
abbrev pub IsThere : DomainState → ℕ → ℕ → Type 0
IsThere s address place = position (has_address_of address) s.endpoints ≡ Some place

pub record IsNamed (s : DomainState) (address : ℕ) (at : Local) : Type 0 where
  pub endpoint : Endpoint
  pub there : endpoint_of s address ≡ Some endpoint
  pub named : endpoint.local ≡ at

abbrev pub IsPlaced : DomainState → Effect → Type 0
IsPlaced s (accepts place address c r) = IsThere s address place
IsPlaced s (sets place address c) = IsThere s address place
IsPlaced s (settles place address c number how) = IsThere s address place
IsPlaced s (ends place address c at) = IsThere s address place × IsNamed s address at
IsPlaced s other = Unit {0}

-- the buffer is given back
pub record IsReturned (s : DomainState) (peer : ℕ) (its : Row) (fate : Fate) (d d' : Desk) : Type 0 where
  pub effect : Effect
  pub applies : Bool
  pub row_is : its ≡ row applies fate (effect_changes peer effect)
  pub returned : keeps_buffer fate ≡ false
  pub placed : IsPlaced s effect
  pub left : d' ≡ left_by effect d

-- ---- announcements

-- names and requests after what an announcement changes
abbrev pub Changes : ℕ → List Change → Names → Names → Requests → Requests → Type 0
Changes peer [] names names' q q' = (names' ≡ names) × (q' ≡ q)
Changes peer (names_known n ms ∷ []) names names' q q' = (n ≡ peer) × (names' ≡ ms) × (q' ≡ q)
Changes peer (names_known n ms ∷ name_found name address ∷ []) names names' q q' = (n ≡ peer) × (names' ≡ ms) × (q' ≡ with_all_complete q (waiters.Lookups name) (complete.Address address))
Changes peer other names names' q q' = ⊥

pub record IsHeard (peer : ℕ) (its : Row) (fate : Fate) (names names' : Names) (q q' : Requests) : Type 0 where
  pub happens : List Change
  pub row_is : its ≡ row true fate happens
  pub returned : keeps_buffer fate ≡ false
  pub changes : Changes peer happens names names' q q'

-- ---- letters

-- an item of these frames, and the one in a frame, whose content of this size lies behind so many bytes of headers
abbrev pub item_with : List ℕ → ℕ → ℕ → ℕ → Option ℕ → List ℕ → Item
item_with names peer source priority channel content = record { peer = peer; source = source; priority = priority; channel = channel; content = content; frames = names }

abbrev pub framed_item : List ℕ → ℕ → List ℕ → ℕ → ℕ → Item
framed_item names peer frame headers size = item_with names peer (source_of frame) (priority_of frame) (channel_of frame) (take size (drop headers frame))

-- letters that bring an item
abbrev pub IsItem : PlainLetter → Type 0
IsItem (msg priority content) = Unit {0}
IsItem (packet number content) = Unit {0}
IsItem (scalar number bits value) = Unit {0}
IsItem other = ⊥

-- an item has its most bytes at most, and a Connect's channel has a number
abbrev pub IsInBounds : PlainLetter → Type 0
IsInBounds (msg priority content) = length content ≤ item_size
IsInBounds (packet number content) = length content ≤ item_size
IsInBounds (connect number kind) = 0 < number
IsInBounds other = Unit {0}

-- the row of a letter from a peer, by the frames that brought it, and the verdict on it
abbrev pub letter_row : DomainState → Came → ℕ → ℕ → ℕ → PlainLetter → Row
letter_row s came peer source destination l = first_row (letter_rows s peer came source destination (endpoint_of s destination) l)

abbrev pub IsJudged : DomainState → Came → ℕ → ℕ → ℕ → PlainLetter → Verdict → Desk → Desk → Type 0
IsJudged s came peer source destination l (verdict.Queued place priority size) d d' =
    IsItem l × (size ≡ length (taken.item_of peer came source l).content) × (priority ≡ (taken.item_of peer came source l).priority)
    × IsQueued s (letter_row s came peer source destination l) (taken.item_of peer came source l) place × (d' ≡ d)
IsJudged s came peer source destination l (verdict.Handed id a size) d d' =
    IsItem l × (size ≡ length (taken.item_of peer came source l).content)
    × IsHanded s d.requests (letter_row s came peer source destination l) (taken.item_of peer came source l) id a × (d' ≡ d)
IsJudged s came peer source destination l (verdict.Returned fate) d d' = IsReturned s peer (letter_row s came peer source destination l) fate d d'

-- an item of this size comes to the endpoint at a place: the oldest receive that waits there gets it, or the queue
abbrev pub local_of : Records → ℕ → Option Local
local_of r place = option_map (λ e. e.local) (slice_get r.endpoints place)

pub record Waits (q : Requests) (local : Option Local) (id : RequestId) (a : Ask) : Type 0 where
  pub at : Local
  pub there : local ≡ Some at
  pub oldest : Some id ≡ oldest_waiting q at
  pub pending : IsPending q id
  pub asks : option_map (λ r. r.ask) (request_of q id) ≡ Some a
  pub receives : receives_at at a ≡ true

pub record NoneWaits (q : Requests) (local : Option Local) : Type 0 where
  pub at : Local
  pub there : local ≡ Some at
  pub none : None ≡ oldest_waiting q at

abbrev pub Brings : Records → Requests → ℕ → ℕ → ℕ → Verdict → Type 0
Brings r q place priority size (verdict.Queued i p n) = (i ≡ place) × (p ≡ priority) × (n ≡ size) × NoneWaits q (local_of r place)
Brings r q place priority size (verdict.Handed id a n) = (n ≡ size) × Waits q (local_of r place) id a
Brings r q place priority size (verdict.Returned fate) = ⊥

-- the row of a Connect
abbrev pub connect_row : DomainState → Way → ℕ → Kind → Row
connect_row s way number kind = first_row (connect_rows s way.peer way.source way.destination (endpoint_of s way.destination) number kind)

-- ---- frames

-- each byte is one
abbrev pub AreBytes : List ℕ → Type 0
AreBytes xs = (i : ℕ) → slice_index xs i < 256

-- the item of a frame has this size and lies within it, behind so many bytes of headers
pub record Fits (frame : List ℕ) (headers size : ℕ) : Type 0 where
  pub short : size ≤ item_size
  pub behind : 24 ≤ headers
  pub inside : headers + size ≤ length frame

abbrev pub IsVerdict : DomainState → Option ℕ → ℕ → List ℕ → ℕ → Verdict → Desk → Desk → Type 0
IsVerdict s name peer frame headers (verdict.Queued place priority size) d d' =
    IsQueued s (row_from s peer name frame) (framed_item (named_so name ∷ []) peer frame headers size) place × Fits frame headers size × (priority_of frame ≡ priority) × (d' ≡ d)
IsVerdict s name peer frame headers (verdict.Handed id a size) d d' =
    IsHanded s d.requests (row_from s peer name frame) (framed_item (named_so name ∷ []) peer frame headers size) id a × Fits frame headers size × (d' ≡ d)
IsVerdict s name peer frame headers (verdict.Returned fate) d d' = IsReturned s peer (row_from s peer name frame) fate d d'

-- ---- what is said of functions: in each state with what they have, whatever names the frames have

-- and of each frame that says this
abbrev pub Deals : ℕ → Reading → Verdict → Desk → Desk → Type 0
Deals peer said v d d' = (frame : List ℕ) (b : Book) (s : DomainState) (name : Option ℕ) → AreBytes frame → said ≡ reading frame → Shows s peer b d
    → IsVerdict s name peer frame 24 v d d'

abbrev pub Judges : Way → PlainLetter → Verdict → (Names → Desk) → (Names → Desk) → Type 0
Judges way l v d d' = (b : Book) (s : DomainState) (came : Came) (names : Names) → Shows s way.peer b (d names)
    → IsJudged s came way.peer way.source way.destination l v (d names) (d' names)

abbrev pub Answers : Way → ℕ → Kind → Fate → (Names → Desk) → (Names → Desk) → Type 0
Answers way number kind fate d d' = (b : Book) (s : DomainState) (names : Names) → Shows s way.peer b (d names)
    → IsReturned s way.peer (connect_row s way number kind) fate (d names) (d' names)

abbrev pub fate_of : Verdict → Fate
fate_of (verdict.Queued place priority size) = Queued
fate_of (verdict.Handed id a size) = Handed
fate_of (verdict.Returned fate) = fate
