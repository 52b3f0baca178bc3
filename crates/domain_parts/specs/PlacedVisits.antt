-- The peers of a state in one step, with the records of endpoints that they leave in use.
-- Source: docs/PROFILE.md, "A turn".
use Rattle.std.specs.Prelude.{List, filter}
use Rattle.board_model.specs.State.{DomainState, Peer, is_owed_end}

-- the records of endpoints of which no linked domain is still to be told that they are gone are free
abbrev pub with_peers : DomainState → List Peer → DomainState
with_peers s peers = record s { peers = peers; ended = filter (is_owed_end peers) s.ended }
