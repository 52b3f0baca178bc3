-- Where the answers of lookups and of requests to connect come from.
-- Source: docs/PROFILE.md, "Names", "Channels" and "Requests".
use Rattle.std.specs.Prelude.{ℕ, Bool, true, false, ◌&&◌, ◌==◌, List, [], ◌∷◌, if◌then◌else◌, Option, None, Some, Contains}
use Rattle.std.specs.List.{flat_map}
use Rattle.mc_base.specs.FullName.{end_name, endpoint_named}
use Rattle.mc_base.specs.NameMap.{rank}
use Rattle.mc_base.specs.Letter.{accept, reject}
use Rattle.mc_base.specs.Reading.{Reading, announces, says}
use Rattle.mc_base.specs.declared.name.EndName.{EndName}
use Rattle.board_model.specs.declared.scenario.Scenario.{Scenario}
use Rattle.board_model.specs.DomainCall.{create_at, test_of, wait_for}
use Rattle.board_model.specs.Journal.{PlainResult, found_at, was_accepted, was_rejected, tells, completes}
use Rattle.board_model.specs.State.{DomainState, ChannelEnd, Asked, name_of, channel_of, Request, endpoint_of, channel_in, request_at_place}
use Rattle.board_model.specs.Parts.{said_from}
use Rattle.board_model.specs.ChannelEnds.{sends_to}
use Rattle.board_model.specs.Answer.{local, first_complete}
use Rattle.board_model.specs.Board.{DomainJournal}
use Rattle.board_model.specs.Deeds.{Deed, takes, calls, after_deeds, along, EachDeed}
use Rattle.board_model.specs.JournalDeeds.{deeds_of, opened}

-- ---- the addresses that were said of a name, which is given by its place in the order of names: the one that the domain itself gave an
-- endpoint that it made under this name, and those that frames of the name's own domain announced

abbrev pub announced_by : ℕ → ℕ → ℕ → Option EndName → List ℕ
announced_by name peer address None = []
announced_by name peer address (Some n) = if n.domain == peer && rank n == name then address ∷ [] else []

abbrev pub announced_in : ℕ → ℕ → Reading → List ℕ
announced_in name peer (announces text address true) = announced_by name peer address (endpoint_named text)
announced_in name peer other = []

abbrev pub addresses_said : ℕ → DomainState → Deed → List ℕ
addresses_said name s (calls node (create_at port) (tells address)) = if rank (end_name s.number (local node port)) == name then address ∷ [] else []
addresses_said name s (takes peer frame_name frame word) = announced_in name peer (said_from s peer frame)
addresses_said name s other = []

-- ---- the addresses that a name had on a board: those that its domain gave endpoints which it made under the name, by the journals

abbrev pub addresses_made : ℕ → DomainState → Deed → List ℕ
addresses_made name s (calls node (create_at port) (tells address)) = if rank (end_name s.number (local node port)) == name then address ∷ [] else []
addresses_made name s other = []

abbrev pub addresses_had : Scenario → List DomainJournal → ℕ → List ℕ
addresses_had s js name = flat_map (λ j. along (addresses_made name) (opened s j) (deeds_of s j)) js

-- ---- the replies to a Connect: the Accept or the Reject of the channel that was taken from the peer to which the channel's sender, the
-- endpoint that has it, is connecting

abbrev pub sends_there : ℕ → ℕ → Option ChannelEnd → Bool
sends_there peer channel None = false
sends_there peer channel (Some c) = sends_to peer channel c

abbrev pub replied_in : ℕ → DomainState → ℕ → Reading → List PlainResult
replied_in channel s peer (says source destination (accept number)) = if number == channel && sends_there peer number (channel_in (endpoint_of s destination)) then was_accepted ∷ [] else []
replied_in channel s peer (says source destination (reject number reason)) = if number == channel && sends_there peer number (channel_in (endpoint_of s destination)) then was_rejected reason ∷ [] else []
replied_in channel s peer other = []

abbrev pub replies_said : ℕ → DomainState → Deed → List PlainResult
replies_said channel s (takes peer frame_name frame word) = replied_in channel s peer (said_from s peer frame)
replies_said channel s other = []

-- ---- what a test or a wait returns of such a request was said before

abbrev pub WasSaid : DomainState → List Deed → Asked → PlainResult → Type 0
WasSaid start before (name_of name) (found_at address) = Contains (along (addresses_said (rank name)) start before) address
WasSaid start before (channel_of channel) was_accepted = Contains (along (replies_said channel) start before) was_accepted
WasSaid start before (channel_of channel) (was_rejected reason) = Contains (along (replies_said channel) start before) (was_rejected reason)
WasSaid start before asked result = Unit {0}

-- and the address that it returns of a name is one that the name had
abbrev pub WasHad : Scenario → List DomainJournal → Asked → PlainResult → Type 0
WasHad s js (name_of name) (found_at address) = Contains (addresses_had s js (rank name)) address
WasHad s js asked result = Unit {0}

-- what a test or a wait returns is so of what its request asked
abbrev pub IsSoOf : (Asked → PlainResult → Type 0) → Option Request → PlainResult → Type 0
IsSoOf IsSo None result = Unit {0}
IsSoOf IsSo (Some r) result = IsSo r.asked result

abbrev pub Returns : (Asked → PlainResult → Type 0) → DomainState → Deed → Type 0
Returns IsSo s (calls node (test_of place) (completes which result)) = IsSoOf IsSo (request_at_place s place) result
Returns IsSo s (calls node (wait_for requests says_place) (completes which result)) = IsSoOf IsSo (request_at_place s (first_complete s requests)) result
Returns IsSo s other = Unit {0}

-- of a journal
abbrev pub TestsTellSaid : Scenario → DomainJournal → Type 0
TestsTellSaid s j = EachDeed (λ before d. Returns (WasSaid (opened s j) before) (after_deeds (opened s j) before) d) [] (deeds_of s j)

abbrev pub LookupsTellHad : Scenario → List DomainJournal → DomainJournal → Type 0
LookupsTellHad s js j = EachDeed (λ before d. Returns (WasHad s js) (after_deeds (opened s j) before) d) [] (deeds_of s j)
