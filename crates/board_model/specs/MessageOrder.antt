-- Which message a receive takes, what a test answers, how many messages a delete drops, and that a cancelled request takes nothing.
-- Source: docs/PROFILE.md, "Messages" and "Requests".
use Rattle.std.specs.Prelude.{◌≡◌, ◌⊎◌, ℕ, Bool, true, false, not, ◌&&◌, ◌==◌, List, [], ◌∷◌, ◌++◌, length, take, map, filter, option_map, option_and_then, if◌then◌else◌, Option, None, Some, Contains}
use Rattle.std.specs.List.{AllByRecursion, flat_map, list_any}
use Rattle.std.specs.Str.{bytes_eq}
use Rattle.byteorder.specs.Endian.{little_number}
use Rattle.mc_base.specs.Letter.{msg, bytes_of_bits}
use Rattle.mc_base.specs.Reading.{Reading, says}
use Rattle.mc_base.specs.declared.refusal.Refusal.TheVariants.{Timeout}
use Rattle.mc_base.specs.declared.fate.Fate.{Fate}
use Rattle.mc_base.specs.declared.fate.Fate.TheVariants.{Queued, Handed}
use Rattle.board_model.specs.declared.scenario.Scenario.{Scenario}
use Rattle.board_model.specs.DomainCall.{delete_at, available_at, lend_at, receive_at, scalar_at, test_of, wait_for}
use Rattle.board_model.specs.Journal.{found_at, brought, ended_by, PlainAnswer, refuses, tells, gives, completes}
use Rattle.board_model.specs.State.{DomainState, Item, Endpoint, Asked, name_of, message_at, packet_at, Request, live_at, endpoint_of, oldest_waiting, request_at_place}
use Rattle.board_model.specs.Choice.{best}
use Rattle.board_model.specs.Answer.{local, place_said, first_complete}
use Rattle.board_model.specs.Board.{DomainJournal}
use Rattle.board_model.specs.TakenFrames.{message_item}
use Rattle.board_model.specs.Parts.{Came, came_from, said_from}
use Rattle.board_model.specs.CallChanges.{at_live}
use Rattle.board_model.specs.Deeds.{Deed, takes, calls, after_deeds, along, EachDeed}
use Rattle.board_model.specs.JournalDeeds.{deeds_of, opened}
use Rattle.board_model.specs.Takings.{Taking, is_message_taking, takings_by, took_something, cancelled_in}

-- ---- what is queued at an endpoint: the messages that came to its address with the word queued, and were neither taken nor dropped

abbrev pub item_said : ℕ → ℕ → Came → Reading → List Item
item_said address peer name (says source destination (msg priority content)) = if destination == address then message_item peer name source priority content ∷ [] else []
item_said address peer name other = []

abbrev pub is_queued : Fate → Bool
is_queued Queued = true
is_queued other = false

abbrev pub came_to : ℕ → DomainState → Deed → List Item
came_to address s (takes peer name frame word) = if is_queued word then item_said address peer (came_from s peer name frame) (said_from s peer frame) else []
came_to address s other = []

abbrev pub items_at : ℕ → Taking → List Item
items_at address t = if t.address == address then t.item ∷ [] else []

abbrev pub dropped_at : ℕ → Option Endpoint → List Item
dropped_at address None = []
dropped_at address (Some e) = if e.address == address then e.queue else []

abbrev pub dropped_from : ℕ → DomainState → Deed → List Item
dropped_from address s (calls node (delete_at port) (tells count)) = dropped_at address (live_at s (local node port))
dropped_from address s other = []

abbrev pub gone_from : ℕ → DomainState → Deed → List Item
gone_from address s d = flat_map (items_at address) (takings_by s d) ++ dropped_from address s d

-- items are the same where the same frames brought them
abbrev pub is_same : Item → Item → Bool
is_same i j = i.peer == j.peer && bytes_eq i.frames j.frames

-- what is queued after these deeds, in the order in which it came
abbrev pub standing : DomainState → List Deed → ℕ → List Item
standing start before address = filter (λ i. not (list_any (is_same i) (along (gone_from address) start before))) (along (came_to address) start before)

-- ---- a receive takes the best of what is queued. Where nothing is queued, the message that comes in that moment is taken, by the
-- oldest receive that waits

abbrev pub is_handed : Fate → Bool
is_handed Handed = true
is_handed other = false

abbrev pub comes_now : ℕ → DomainState → Deed → List Item
comes_now address s (takes peer name frame word) = if is_handed word then item_said address peer (came_from s peer name frame) (said_from s peer frame) else []
comes_now address s other = []

abbrev pub waiting_first : DomainState → ℕ → Option ℕ
waiting_first s address = option_map (λ r. r.serial) (option_and_then (λ e. oldest_waiting s e.local) (endpoint_of s address))

pub record TakesWhatComes (start : DomainState) (before : List Deed) (d : Deed) (t : Taking) : Type 0 where
  pub nothing_stands : standing start before t.address ≡ []
  pub comes : comes_now t.address (after_deeds start before) d ≡ t.item ∷ []
  pub waits : waiting_first (after_deeds start before) t.address ≡ t.request

abbrev pub EachBest : DomainState → List Deed → Deed → Type 0
EachBest start before d = AllByRecursion (λ t. (best (λ i. i.priority) (standing start before t.address) ≡ Some t.item) ⊎ TakesWhatComes start before d t) (filter is_message_taking (takings_by (after_deeds start before) d))

-- the size of the item, and its first bytes, as many as the receive asks for
pub record Gives (max : ℕ) (i : Item) (size : ℕ) (bytes : List ℕ) : Type 0 where
  pub whole : size ≡ length i.content
  pub first : bytes ≡ take max i.content

-- a receive that answers returns what it took, and no more
abbrev pub GivesTaken : DomainState → Deed → Type 0
GivesTaken s (calls node (receive_at port max) (gives size bytes)) = (t : Taking) × (takings_by s (calls node (receive_at port max) (gives size bytes)) ≡ t ∷ []) × Gives max t.item size bytes
GivesTaken s (calls node (lend_at port) (gives size bytes)) = (t : Taking) × (takings_by s (calls node (lend_at port) (gives size bytes)) ≡ t ∷ []) × (size ≡ length t.item.content) × (bytes ≡ t.item.content)
GivesTaken s (calls node (scalar_at port bits) (tells value)) = (t : Taking) × (takings_by s (calls node (scalar_at port bits) (tells value)) ≡ t ∷ []) × (value ≡ little_number (bytes_of_bits bits) t.item.content)
GivesTaken s other = Unit {0}

abbrev pub TakesBest : DomainState → List Deed → Deed → Type 0
TakesBest start before d = EachBest start before d × GivesTaken (after_deeds start before) d

-- ---- what a test or a wait answers, by what its request asked for

-- the items that the request of this serial took
abbrev pub is_by : ℕ → Option ℕ → Bool
is_by serial None = false
is_by serial (Some request) = request == serial

abbrev pub taken_for : DomainState → List Deed → ℕ → List Item
taken_for start before serial = map (λ t. t.item) (filter (λ t. is_by serial t.request) (along takings_by start before))

pub record TellsTaken (max : ℕ) (took : List Item) (size : ℕ) (bytes : List ℕ) : Type 0 where
  pub item : Item
  pub taken : took ≡ item ∷ []
  pub gives : Gives max item size bytes

-- for a request for a message: the message that it took, and no other; or, where it answers a word, that it took none
abbrev pub TellsMessage : ℕ → List Item → PlainAnswer → Type 0
TellsMessage max took (completes None (brought size bytes)) = TellsTaken max took size bytes
TellsMessage max took (completes None (ended_by word)) = took ≡ []
TellsMessage max took (refuses word) = took ≡ []
TellsMessage max took other = ⊥

-- for a lookup: an address, or a word; it took nothing
abbrev pub TellsAddress : List Item → PlainAnswer → Type 0
TellsAddress took (completes None (found_at address)) = took ≡ []
TellsAddress took (refuses word) = took ≡ []
TellsAddress took other = ⊥

-- for a request for a packet: the packet that it took, whole; or, where it answers a word, that it took none
pub record TellsWhole (took : List Item) (size : ℕ) (bytes : List ℕ) : Type 0 where
  pub item : Item
  pub taken : took ≡ item ∷ []
  pub whole : size ≡ length item.content
  pub all : bytes ≡ item.content

abbrev pub TellsPacket : List Item → PlainAnswer → Type 0
TellsPacket took (completes None (brought size bytes)) = TellsWhole took size bytes
TellsPacket took (completes None (ended_by word)) = took ≡ []
TellsPacket took (refuses word) = took ≡ []
TellsPacket took other = ⊥

abbrev pub TellsAsked : Asked → List Item → PlainAnswer → Type 0
TellsAsked (packet_at at) took a = TellsPacket took a
TellsAsked (message_at at max) took a = TellsMessage max took a
TellsAsked (name_of name) took a = TellsAddress took a
TellsAsked other took a = took ≡ []

-- no test of a request that does not exist is a success
abbrev pub TellsOf : DomainState → List Deed → Option Request → PlainAnswer → Type 0
TellsOf start before None (refuses word) = Unit {0}
TellsOf start before None other = ⊥
TellsOf start before (Some r) a = TellsAsked r.asked (taken_for start before r.serial) a

-- a wait reports the first of its requests that is complete, and the place of that one where it says a place. At its limit none of them
-- has taken anything
abbrev pub WaitTells : DomainState → List Deed → List (Option ℕ) → Bool → PlainAnswer → Type 0
WaitTells start before requests says_place (refuses Timeout) = AllByRecursion (λ r. TellsOf start before (request_at_place (after_deeds start before) r) (refuses Timeout)) requests
WaitTells start before requests says_place (refuses word) = Unit {0}
WaitTells start before requests says_place (completes place result) = (place ≡ place_said (after_deeds start before) requests says_place) × TellsOf start before (request_at_place (after_deeds start before) (first_complete (after_deeds start before) requests)) (completes None result)
WaitTells start before requests says_place other = ⊥

abbrev pub TestTells : DomainState → List Deed → Deed → Type 0
TestTells start before (calls node (test_of place) a) = TellsOf start before (request_at_place (after_deeds start before) place) a
TestTells start before (calls node (wait_for requests says_place) a) = WaitTells start before requests says_place a
TestTells start before other = Unit {0}

-- ---- the number that a delete returns is that of the messages which it drops

abbrev pub DeleteTells : DomainState → List Deed → Deed → Type 0
DeleteTells start before (calls node (delete_at port) (tells count)) = count ≡ length (at_live (live_at (after_deeds start before) (local node port)) (λ e. standing start before e.address))
DeleteTells start before other = Unit {0}

-- ---- the number of messages that are said to be available is that of those which are queued

abbrev pub AvailableTells : DomainState → List Deed → Deed → Type 0
AvailableTells start before (calls node (available_at port) (tells count)) = count ≡ length (at_live (live_at (after_deeds start before) (local node port)) (λ e. standing start before e.address))
AvailableTells start before other = Unit {0}

-- ---- of a journal

abbrev pub ReceivesBest : Scenario → DomainJournal → Type 0
ReceivesBest s j = EachDeed (TakesBest (opened s j)) [] (deeds_of s j)

abbrev pub TestsTellTaken : Scenario → DomainJournal → Type 0
TestsTellTaken s j = EachDeed (TestTells (opened s j)) [] (deeds_of s j)

abbrev pub DeletesTellDropped : Scenario → DomainJournal → Type 0
DeletesTellDropped s j = EachDeed (DeleteTells (opened s j)) [] (deeds_of s j)

abbrev pub AvailableTellQueued : Scenario → DomainJournal → Type 0
AvailableTellQueued s j = EachDeed (AvailableTells (opened s j)) [] (deeds_of s j)

abbrev pub CancelledTookNothing : Scenario → DomainJournal → Type 0
CancelledTookNothing s j = (request : ℕ) → Contains (cancelled_in s j) request → Contains (took_something s j) request → ⊥
