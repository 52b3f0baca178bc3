-- A state whose frames have other names: the names of an item's frames go through a function of the peer that it came from.
-- Source: docs/PROFILE.md, "Messages". What a domain does depends on no name, so its state can be stated by any names.
use Rattle.std.specs.Prelude.{map, option_map, ℕ}
use Rattle.board_model.specs.State.{DomainState, Endpoint, HeldFrame, Item, LentPacket, Outcome, Request, has_item}

module _ (names : ℕ → ℕ → ℕ) where
  abbrev pub renamed_item : Item → Item
  renamed_item i = record i { frames = map (names i.peer) i.frames }

  abbrev pub renamed_end : Endpoint → Endpoint
  renamed_end e = record e { queue = map renamed_item e.queue }

  abbrev pub renamed_outcome : Outcome → Outcome
  renamed_outcome (has_item i) = has_item (renamed_item i)
  renamed_outcome other = other

  abbrev pub renamed_request : Request → Request
  renamed_request r = record r { outcome = option_map renamed_outcome r.outcome }

  abbrev pub renamed_packet : LentPacket → LentPacket
  renamed_packet p = record p { item = renamed_item p.item }

  abbrev pub renamed_held : HeldFrame → HeldFrame
  renamed_held h = record h { name = names h.peer h.name }

  abbrev pub renamed : DomainState → DomainState
  renamed s = record s { endpoints = map renamed_end s.endpoints; requests = map renamed_request s.requests; lent = map renamed_packet s.lent; held = map renamed_held s.held }
