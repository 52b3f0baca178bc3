-- What becomes of the item of a taken frame.
-- Source: docs/PROFILE.md, "What a domain does with a taken frame".
use Rattle.std.specs.Prelude.{ℕ, Bool, ◌&&◌, [], ◌∷◌, ◌++◌, map, Some, is_none, if◌then◌else◌}
use Rattle.mc_base.specs.declared.name.EndName.{EndName}
use Rattle.board_model.specs.Change.{asks_for}
use Rattle.board_model.specs.State.{Item, Endpoint, Request, has_address, has_item, DomainState}

-- last in the queue
abbrev pub queued_last : Item → Endpoint → Endpoint
queued_last item e = record e { queue = e.queue ++ item ∷ [] }

-- a pending receive is complete with the item
abbrev pub complete_with : Item → Request → Request
complete_with item r = record r { outcome = Some (has_item item) }

-- a lookup of this name that is pending is complete with the address
abbrev pub looks_for : EndName → Request → Bool
looks_for n r = is_none r.outcome && asks_for n r.asked

abbrev pub found_for : EndName → ℕ → Request → Request
found_for n address r = if looks_for n r then record r { outcome = Some (has_address address) } else r

abbrev pub with_found : DomainState → EndName → ℕ → DomainState
with_found s n address = record s { requests = map (found_for n address) s.requests }
