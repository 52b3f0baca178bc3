-- Messages and packets on their way to a peer, and the frames in which they go.
-- Source: docs/FORMATS.md, "Payload header, version 2".
use Rattle.std.specs.Prelude.{◌≡◌, ◌<◌, ℕ, zero, suc, ◌-◌, List, length, map}
use Rattle.mc_base.specs.Letter.{PlainLetter, carried, piece_spelling}
use Rattle.mc_base.specs.Pieces.{parts_from}
use Rattle.board_model.specs.Answer.{Post, post, put_as}
use Rattle.domain_parts.specs.declared.outgoing.Outgoing.{Outgoing}
use Rattle.domain_parts.specs.Pieces.{carrier_in}

-- the whole letter, and the same with its peer and addresses
abbrev pub letter_of : Outgoing → PlainLetter
letter_of o = carried (carrier_in o.carrier) o.bytes.now

abbrev pub post_of : Outgoing → Post
post_of o = post o.peer o.source o.destination (letter_of o)

-- so many parts are what so many bytes need: each takes as many as the cut says, and the last what is left
abbrev pub NeedsParts : ℕ → ℕ → ℕ → Type 0
NeedsParts cut zero n = n ≡ 0
NeedsParts cut (suc more) n = (0 < n) × NeedsParts cut more (n - cut)

-- the frames of its parts, each with its peer
abbrev pub parts_put : ℕ → ℕ → Outgoing → List (ℕ × List ℕ)
parts_put cut count o = map (put_as (post_of o)) (map piece_spelling (parts_from cut (carrier_in o.carrier) (length o.bytes.now) count 0 o.bytes.now))
