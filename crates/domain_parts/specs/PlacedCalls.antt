-- What a call's success changes at once, by places. It is what the board's definitions say one change after the other (`CallsAgree`).
-- Source: docs/PROFILE.md, "Calls".
use Rattle.std.specs.Prelude.{ℕ, ◌+◌, ◌-◌, ◌%◌, ◌^◌, true, false, ◌==◌, List, [], ◌∷◌, ◌++◌, map, Option, None, Some, option_to_list, if◌then◌else◌}
use Rattle.mc_base.specs.Limits.{first_address}
use Rattle.mc_base.specs.FullName.{end_name}
use Rattle.mc_base.specs.declared.name.Local.{Local}
use Rattle.mc_base.specs.declared.refusal.Refusal.{Refusal}
use Rattle.mc_base.specs.declared.channel.Side.TheVariants.{Receiver}
use Rattle.mc_base.specs.declared.refusal.Refusal.TheVariants.{EndpInvalid}
use Rattle.board_model.specs.DomainCall.{DomainCall, delete_at, receive_at, release_of, scalar_at, close_at, test_of, wait_for}
use Rattle.board_model.specs.Lists.{changed, without, with_rising}
use Rattle.board_model.specs.State.{DomainState, Endpoint, Item, Announcement, Peer, Asked, Outcome, has_ended, Request, request_at_place, packet_at_place, place_at, queue_at, place_of_peer, waits_at}
use Rattle.board_model.specs.Choice.{best, oldest, without_best}
use Rattle.board_model.specs.Answer.{first_complete, local}
use Rattle.board_model.specs.CallChanges.{held_by, item_lent}
use Rattle.domain_parts.specs.PlacedFrames.{with_found}
use Rattle.domain_parts.specs.PlacedVisits.{with_peers}

-- a new endpoint. Its address is 1024 and the number of endpoints that were created before
abbrev pub new_endpoint : DomainState → Local → Endpoint
new_endpoint s at = record { local = at; address = first_address + s.endpoints_given; queue = []; channel = None }

-- each linked domain is owed an announcement, after those before it. Nothing is announced to the domain itself
abbrev pub also_owed : ℕ → Announcement → Peer → Peer
also_owed domain a p = if p.number == domain then p else record p { announcements = p.announcements ++ a ∷ [] }

abbrev pub with_announced : DomainState → Announcement → DomainState
with_announced s a = with_peers s (map (also_owed s.number a) s.peers)

-- an endpoint is there: linked domains are to be told, and lookups of it are complete
abbrev pub with_endpoint : DomainState → Local → DomainState
with_endpoint s at = with_found (with_announced (record s { endpoints = s.endpoints ++ new_endpoint s at ∷ []; endpoints_given = s.endpoints_given + 1 }) (record { local = at; address = first_address + s.endpoints_given; create = true })) (end_name s.number at) (first_address + s.endpoints_given)

-- an endpoint is gone: receives that wait at it are complete with a word, and linked domains are to be told
abbrev pub ended_by_word : Refusal → Local → Request → Request
ended_by_word word at r = if waits_at at r then record r { outcome = Some (has_ended word) } else r

abbrev pub without_endpoint : DomainState → Local → ℕ → DomainState
without_endpoint s at address = with_announced (record s { endpoints = without (place_at s at) s.endpoints; ended = with_rising address s.ended; requests = map (ended_by_word EndpInvalid at) s.requests }) (record { local = at; address = address; create = false })

-- one buffer of the lane to a peer is used
abbrev pub used_one : Peer → Peer
used_one p = record p { free = p.free - 1 }

abbrev pub with_used : DomainState → ℕ → DomainState
with_used s peer = record s { peers = changed used_one (place_of_peer s peer) s.peers }

-- the oldest item of the best priority is gone
abbrev pub received : Endpoint → Endpoint
received e = record e { queue = without_best (λ i. i.priority) e.queue }

abbrev pub with_received : DomainState → Local → DomainState
with_received s at = record s { endpoints = changed received (place_at s at) s.endpoints }

-- a new request. Its serial is the number of requests that were given before, modulo 2^64
abbrev pub with_request : DomainState → Asked → Option Outcome → DomainState
with_request s asked outcome = record s { requests = s.requests ++ record { serial = s.requests_given; asked = asked; outcome = outcome } ∷ []; requests_given = (s.requests_given + 1) % 2 ^ 64 }

-- the oldest item of the best priority of E's queue
abbrev pub best_queued : DomainState → Local → Option Item
best_queued s at = best (λ i. i.priority) (queue_at s at)

-- the items whose buffers success gives back, in that order
abbrev pub success_returns : DomainState → ℕ → DomainCall → List Item
success_returns s node (delete_at port) = queue_at s (local node port)
success_returns s node (close_at port Receiver) = queue_at s (local node port)
success_returns s node (release_of place) = item_lent (packet_at_place s place)
success_returns s node (scalar_at port bits) = option_to_list (oldest (queue_at s (local node port)))
success_returns s node (receive_at port max) = option_to_list (best_queued s (local node port))
success_returns s node (test_of request) = held_by (request_at_place s request)
success_returns s node (wait_for requests says_place) = held_by (request_at_place s (first_complete s requests))
success_returns s node other = []
