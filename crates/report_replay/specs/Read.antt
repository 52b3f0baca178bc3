-- What a frame from a peer says, by what it says by itself.
-- Source: docs/PROFILE.md, "What a domain does with a taken frame".
use Rattle.std.specs.Prelude.{ℕ}
use Rattle.mc_base.specs.Reading.{Reading}
use Rattle.board_model.specs.State.{DomainState}
use Rattle.board_model.specs.Parts.{Coming, coming, part_of}

-- together with the open part of the peer
abbrev pub coming_read : DomainState → ℕ → Reading → Coming
coming_read s peer r = coming (part_of s peer) r
