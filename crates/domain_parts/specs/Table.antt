-- The endpoints and requests of a domain, as its parts see them.
-- Source: docs/PROFILE.md, "A domain".
use Rattle.std.specs.Prelude.{ℕ, List, []}
use Rattle.std.specs.List.{flat_map}
use Rattle.board_model.specs.State.{DomainState, Endpoint, Item, LentPacket, Part, Request}

-- an open part: the peer that sends it, what came of it, and the names of its frames
pub record PartRead : Type 0 where
  pub peer : ℕ
  pub part : Part
  pub names : List ℕ

-- what a frame that is taken may change
pub record Held : Type 0 where
  pub endpoints : List Endpoint
  pub requests : List Request
  pub lent : List LentPacket
  pub parts : List PartRead

-- the domain's number, what it holds, how many endpoints were created, how many items each queue has room for, and how many
-- requests were given, modulo 2^64
pub record Table : Type 0 where
  pub number : ℕ
  pub held : Held
  pub given : ℕ
  pub room : ℕ
  pub requests_given : ℕ

-- a domain of which only the endpoints matter
abbrev pub holding : List Endpoint → DomainState
holding es = record { number = 0; nodes = 0; endpoints = es; ended = []; peers = []; requests = []; lent = []; held = []; endpoints_given = 0; channels_given = 0; requests_given = 0; packets_lent = 0 }

-- the items in the queues
abbrev pub items_in : List Endpoint → List Item
items_in es = flat_map (λ e. e.queue) es

abbrev pub with_held : Table → Held → Table
with_held t h = record t { held = h }

abbrev pub with_requests : Table → List Request → Table
with_requests t rs = with_held t (record t.held { requests = rs })
