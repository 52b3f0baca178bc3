-- What is known of a state in which a call does something, and which calls take memory.
-- Source: docs/PROFILE.md, "Calls".
use Rattle.std.specs.Prelude.{◌≡◌, Some}
use Rattle.mc_base.specs.declared.name.Local.{Local}
use Rattle.board_model.specs.State.{DomainState, Endpoint, endpoint_of, live_at}
use Rattle.board_model.specs.DomainCall.{DomainCall, create_at, delete_at, lookup_of, request_at, connect_from, lend_at, packet_request_at, test_of, wait_for}

-- a live endpoint is the one that has its address
abbrev pub HasOwnAddresses : DomainState → Type 0
HasOwnAddresses s = (at : Local) (e : Endpoint) → live_at s at ≡ Some e → endpoint_of s e.address ≡ Some e

-- success adds nothing to a list
abbrev pub TakesNoMemory : DomainCall → Type 0
TakesNoMemory (create_at port) = ⊥
TakesNoMemory (delete_at port) = ⊥
TakesNoMemory (lookup_of name) = ⊥
TakesNoMemory (request_at port max) = ⊥
TakesNoMemory (connect_from port to kind) = ⊥
TakesNoMemory (lend_at port) = ⊥
TakesNoMemory (packet_request_at port) = ⊥
TakesNoMemory (test_of request) = ⊥
TakesNoMemory (wait_for requests says_place) = ⊥
TakesNoMemory other = Unit {0}
