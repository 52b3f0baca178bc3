-- What receives took. A receive takes an item when it answers, or when its request is completed.
-- Source: docs/PROFILE.md, "Messages", "Channels" and "Requests".
use Rattle.std.specs.Prelude.{ℕ, Bool, true, false, ◌&&◌, ◌==◌, List, [], ◌∷◌, ◌++◌, map, filter, option_to_list, option_map, Option, None, Some, if◌then◌else◌}
use Rattle.std.specs.List.{flat_map, list_any}
use Rattle.board_model.specs.declared.scenario.Scenario.{Scenario}
use Rattle.board_model.specs.DomainCall.{receive_at, lend_at, scalar_at, cancel_of}
use Rattle.board_model.specs.Journal.{agrees, tells, gives}
use Rattle.board_model.specs.State.{DomainState, Item, Asked, message_at, packet_at, Outcome, has_item, Request, live_at, request_at_place}
use Rattle.board_model.specs.Choice.{oldest}
use Rattle.board_model.specs.Answer.{local}
use Rattle.board_model.specs.Board.{DomainJournal}
use Rattle.board_model.specs.CallChanges.{at_live, best_item}
use Rattle.board_model.specs.Deeds.{Deed, calls, after_deed, along}
use Rattle.board_model.specs.JournalDeeds.{deeds_of, opened}
use Rattle.board_model.specs.Messages.{Message, is_message_item, message_of}

-- an item that was taken, the address of the endpoint that had it, and the serial of the request that took it, or none where a receive
-- answered at once
pub record Taking : Type 0 where
  pub request : Option ℕ
  pub address : ℕ
  pub item : Item

abbrev pub taking : Option ℕ → ℕ → Item → Taking
taking request address item = record { request = request; address = address; item = item }

-- ---- by a receive that answers

abbrev pub answered_by : DomainState → Deed → List Taking
answered_by s (calls node (receive_at port max) (gives size bytes)) = at_live (live_at s (local node port)) (λ e. map (taking None e.address) (option_to_list (best_item e)))
answered_by s (calls node (lend_at port) (gives size bytes)) = at_live (live_at s (local node port)) (λ e. map (taking None e.address) (option_to_list (oldest e.queue)))
answered_by s (calls node (scalar_at port bits) (tells value)) = at_live (live_at s (local node port)) (λ e. map (taking None e.address) (option_to_list (oldest e.queue)))
answered_by s other = []

-- ---- by requests that are completed: those that hold an item, and held none before

abbrev pub item_held : Option Outcome → List Item
item_held (Some (has_item i)) = i ∷ []
item_held other = []

abbrev pub holds_item : Option Outcome → Bool
holds_item (Some (has_item i)) = true
holds_item other = false

abbrev pub held_before : DomainState → ℕ → Bool
held_before s serial = list_any (λ r. r.serial == serial && holds_item r.outcome) s.requests

-- the address of the endpoint at which a request asks for an item
abbrev pub asked_address : DomainState → Asked → List ℕ
asked_address s (message_at at max) = at_live (live_at s at) (λ e. e.address ∷ [])
asked_address s (packet_at at) = at_live (live_at s at) (λ e. e.address ∷ [])
asked_address s other = []

abbrev pub completed_by : DomainState → Request → List Taking
completed_by s r =
    if held_before s r.serial then []
    else flat_map (λ i. map (λ a. taking (Some r.serial) a i) (asked_address s r.asked)) (item_held r.outcome)

-- ---- by a deed, and by a journal

abbrev pub takings_by : DomainState → Deed → List Taking
takings_by s d = answered_by s d ++ flat_map (completed_by s) (after_deed s d).requests

abbrev pub takings_in : Scenario → DomainJournal → List Taking
takings_in s j = along takings_by (opened s j) (deeds_of s j)

-- the messages that were taken: the items that came on no channel
abbrev pub is_message_taking : Taking → Bool
is_message_taking t = is_message_item t.item

abbrev pub taken_message : ℕ → Taking → Message
taken_message d t = message_of d t.address t.item

abbrev pub taken_in : Scenario → DomainJournal → List Message
taken_in s j = map (taken_message j.line.domain) (filter is_message_taking (takings_in s j))

abbrev pub messages_taken : Scenario → List DomainJournal → List Message
messages_taken s js = flat_map (taken_in s) js

-- ---- requests that took something, and those that were cancelled, by their serials

abbrev pub took_something : Scenario → DomainJournal → List ℕ
took_something s j = flat_map (λ t. option_to_list t.request) (takings_in s j)

abbrev pub cancelled_by : DomainState → Deed → List ℕ
cancelled_by s (calls node (cancel_of place) agrees) = option_to_list (option_map (λ r. r.serial) (request_at_place s place))
cancelled_by s other = []

abbrev pub cancelled_in : Scenario → DomainJournal → List ℕ
cancelled_in s j = along cancelled_by (opened s j) (deeds_of s j)
