-- The buffers that a run gives back to a peer: the places, among the frames taken from the peer, of those whose buffers were given
-- back, in the order of giving back.
-- Source: docs/PROFILE.md, "Lanes".
use Rattle.std.specs.Prelude.{ℕ, List}
use Rattle.board_model.specs.declared.scenario.Scenario.{Scenario}
use Rattle.board_model.specs.Returns.{names_given}
use Rattle.board_model.specs.Board.{DomainJournal}
use Rattle.board_model.specs.Deeds.{along}
use Rattle.board_model.specs.JournalDeeds.{deeds_of, opened}

-- a journal's frames are named by their places
abbrev pub places_given : Scenario → DomainJournal → ℕ → List ℕ
places_given s j peer = along (names_given peer) (opened s j) (deeds_of s j)
