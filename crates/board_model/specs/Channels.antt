-- The items of a channel, by the journals: what its sender accepted, what its receiver took, and what is left: dropped, queued or in
-- the ring, in this order. A channel is named by its sender's domain, its owner, and by the number that this domain gave it.
-- Source: docs/PROFILE.md, "Channels".
use Rattle.std.specs.Prelude.{◌≡◌, ◌⊎◌, ℕ, Bool, true, false, ◌&&◌, ◌==◌, List, [], ◌∷◌, ◌++◌, map, filter, length, Option, Some, None, if◌then◌else◌}
use Rattle.std.specs.List.{flat_map, AllByRecursion}
use Rattle.byteorder.specs.Endian.{little_bytes}
use Rattle.mc_base.specs.Letter.{PlainLetter, packet, scalar, bytes_of_bits}
use Rattle.mc_base.specs.Reading.{Reading, says}
use Rattle.mc_base.specs.declared.channel.Side.TheVariants.{Receiver}
use Rattle.mc_base.specs.declared.fate.Fate.{Fate}
use Rattle.mc_base.specs.declared.fate.Fate.TheVariants.{Closed, Handed, Queued}
use Rattle.board_model.specs.declared.scenario.Scenario.{Scenario}
use Rattle.board_model.specs.Scenario.{Lane, lanes}
use Rattle.board_model.specs.Journal.{agrees, tells, connects}
use Rattle.board_model.specs.DomainCall.{connect_from, packet_from, scalar_from, close_at}
use Rattle.board_model.specs.State.{Item, Endpoint, ChannelEnd, DomainState, live_at}
use Rattle.board_model.specs.Answer.{local, channel_at}
use Rattle.board_model.specs.Parts.{said_from}
use Rattle.board_model.specs.CallChanges.{at_live, at_end}
use Rattle.board_model.specs.Deeds.{Deed, takes, calls, along, after_deeds, EachDeed}
use Rattle.board_model.specs.Board.{DomainJournal}
use Rattle.board_model.specs.JournalDeeds.{deeds_of, opened, left_in}
use Rattle.board_model.specs.Messages.{ring_says}
use Rattle.board_model.specs.Takings.{takings_in}

-- ---- accepted: the contents of the sends that answer ok, at the end with the number

abbrev pub sent_over : ℕ → List ℕ → Endpoint → ChannelEnd → List (List ℕ)
sent_over number content e c = if c.number == number then content ∷ [] else []

abbrev pub accepted_by : ℕ → DomainState → Deed → List (List ℕ)
accepted_by number s (calls node (packet_from port bytes) agrees) = at_end (live_at s (local node port)) (sent_over number bytes)
accepted_by number s (calls node (scalar_from port bits value) agrees) = at_end (live_at s (local node port)) (sent_over number (little_bytes (bytes_of_bits bits) value))
accepted_by number s other = []

abbrev pub accepted_in : Scenario → ℕ → ℕ → DomainJournal → List (List ℕ)
accepted_in s owner number j = if j.line.domain == owner then along (accepted_by number) (opened s j) (deeds_of s j) else []

abbrev pub items_accepted : Scenario → List DomainJournal → ℕ → ℕ → List (List ℕ)
items_accepted s js owner number = flat_map (accepted_in s owner number) js

-- ---- named: the domains to which those of the owner's connects lead that were answered with the number

abbrev pub named_by : ℕ → DomainState → Deed → List ℕ
named_by number s (calls node (connect_from port to kind) (connects request channel)) = if channel == number then to.domain ∷ [] else []
named_by number s other = []

abbrev pub named_in : Scenario → ℕ → ℕ → DomainJournal → List ℕ
named_in s owner number j = if j.line.domain == owner then along (named_by number) (opened s j) (deeds_of s j) else []

abbrev pub domains_named : Scenario → List DomainJournal → ℕ → ℕ → List ℕ
domains_named s js owner number = flat_map (named_in s owner number) js

-- ---- items of the channel

abbrev pub is_numbered : ℕ → Option ℕ → Bool
is_numbered number None = false
is_numbered number (Some n) = n == number

abbrev pub is_of_channel : ℕ → ℕ → Item → Bool
is_of_channel owner number i = i.peer == owner && is_numbered number i.channel

abbrev pub contents_of : ℕ → ℕ → List Item → List (List ℕ)
contents_of owner number items = map (λ i. i.content) (filter (is_of_channel owner number) items)

-- ---- taken: those that receives took

abbrev pub taken_on : Scenario → ℕ → ℕ → DomainJournal → List (List ℕ)
taken_on s owner number j = contents_of owner number (map (λ t. t.item) (takings_in s j))

abbrev pub items_taken : Scenario → List DomainJournal → ℕ → ℕ → List (List ℕ)
items_taken s js owner number = flat_map (taken_on s owner number) js

-- ---- dropped: those that are queued when the receiver closes, and those that come later

-- the content of a letter that carries an item of this number
abbrev pub data_in : ℕ → PlainLetter → List (List ℕ)
data_in number (packet n content) = if n == number then content ∷ [] else []
data_in number (scalar n bits value) = if n == number then little_bytes (bytes_of_bits bits) value ∷ [] else []
data_in number other = []

abbrev pub data_said : ℕ → Reading → List (List ℕ)
data_said number (says source destination l) = data_in number l
data_said number other = []

abbrev pub is_lost : Fate → Bool
is_lost Closed = true
is_lost other = false

abbrev pub lost_by : ℕ → ℕ → DomainState → Deed → List (List ℕ)
lost_by owner number s (takes peer name frame word) = if is_lost word && peer == owner then data_said number (said_from s peer frame) else []
lost_by owner number s (calls node (close_at port Receiver) (tells count)) = at_live (live_at s (local node port)) (λ e. contents_of owner number e.queue)
lost_by owner number s other = []

abbrev pub lost_in : Scenario → ℕ → ℕ → DomainJournal → List (List ℕ)
lost_in s owner number j = along (lost_by owner number) (opened s j) (deeds_of s j)

abbrev pub items_dropped : Scenario → List DomainJournal → ℕ → ℕ → List (List ℕ)
items_dropped s js owner number = flat_map (lost_in s owner number) js

-- ---- queued in the last states

abbrev pub queued_in : Scenario → ℕ → ℕ → DomainJournal → List (List ℕ)
queued_in s owner number j = flat_map (λ e. contents_of owner number e.queue) (left_in s j).endpoints

abbrev pub items_queued : Scenario → List DomainJournal → ℕ → ℕ → List (List ℕ)
items_queued s js owner number = flat_map (queued_in s owner number) js

-- ---- in the ring: those whose frames were put by the owner and not taken

abbrev pub data_on : List DomainJournal → ℕ → ℕ → Lane → List (List ℕ)
data_on js owner number l = if l.sender == owner then flat_map (data_said number) (ring_says js l) else []

abbrev pub items_in_ring : Scenario → List DomainJournal → ℕ → ℕ → List (List ℕ)
items_in_ring s js owner number = flat_map (data_on js owner number) (lanes s)

-- ---- left

abbrev pub items_left : Scenario → List DomainJournal → ℕ → ℕ → List (List ℕ)
items_left s js owner number = items_dropped s js owner number ++ (items_queued s js owner number ++ items_in_ring s js owner number)

-- ---- items arrive: each data frame of a channel on which something was accepted has the word closed, handed or queued

abbrev pub arrives : Fate → Bool
arrives Closed = true
arrives Handed = true
arrives Queued = true
arrives other = false

abbrev pub words_by : ℕ → ℕ → DomainState → Deed → List Fate
words_by owner number s (takes peer name frame word) = if peer == owner then map (λ content. word) (data_said number (said_from s peer frame)) else []
words_by owner number s other = []

abbrev pub words_in : Scenario → ℕ → ℕ → DomainJournal → List Fate
words_in s owner number j = along (words_by owner number) (opened s j) (deeds_of s j)

abbrev pub ItemsArrive : Scenario → List DomainJournal → ℕ → ℕ → Type 0
ItemsArrive s js owner number = (items_accepted s js owner number ≡ []) ⊎ AllByRecursion (λ word. arrives word ≡ true) (flat_map (words_in s owner number) js)

-- ---- where something was dropped, nothing is queued

abbrev pub DroppedOrQueued : Scenario → List DomainJournal → ℕ → ℕ → Type 0
DroppedOrQueued s js owner number = (items_dropped s js owner number ≡ []) ⊎ (items_queued s js owner number ≡ [])

-- ---- the number that a receiver's close returns is that of the items of its channel which it drops

abbrev pub dropped_at : Option ChannelEnd → DomainState → Deed → List (List ℕ)
dropped_at None s d = []
dropped_at (Some c) s d = lost_by c.owner c.number s d

abbrev pub CloseTells : DomainState → List Deed → Deed → Type 0
CloseTells start before (calls node (close_at port Receiver) (tells count)) = count ≡ length (dropped_at (channel_at (after_deeds start before) (local node port)) (after_deeds start before) (calls node (close_at port Receiver) (tells count)))
CloseTells start before other = Unit {0}

abbrev pub ClosesTellDropped : Scenario → DomainJournal → Type 0
ClosesTellDropped s j = EachDeed (CloseTells (opened s j)) [] (deeds_of s j)
