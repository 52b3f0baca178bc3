-- The buffers that a domain gives back to a peer are those of the frames at the places that its journal tells.
-- Source: docs/PROFILE.md, "Lanes"; docs/FORMATS.md, "Ring lines". No entry of a journal tells a number, so a journal's deeds name each frame by
-- its place among those taken from its peer. What a domain does hangs on no name.
use Rattle.std.specs.Prelude.{◌≡◌, ℕ, List, [], map}
use Rattle.std.specs.List.{AllByRecursion}
use Rattle.lane_end.specs.ReceiveMoves.{ReceiveMove}
use Rattle.board_model.specs.declared.scenario.Scenario.{Scenario}
use Rattle.board_model.specs.Board.{DomainJournal}
use Rattle.board_model.specs.Deeds.{Deed, along}
use Rattle.board_model.specs.Given.{places_given}
use Rattle.board_model.specs.JournalDeeds.{deeds_of, opened}
use Rattle.board_model.specs.LinkedBoard.{IsLinkedBoard}
use Rattle.board_model.specs.Run.{IsDomainRun}
use Rattle.lane_images.specs.DeedMoves.{deed_moves, unlooked, nameless_deed, IsNumbered}
use Rattle.lane_images.specs.GivesAt.{GivesAt}

-- the deeds are those of the journal, but with buffers' numbers for names, and at the end towards the peer just their moves were made
pub record DidAsNoted (s : Scenario) (j : DomainJournal) (peer : ℕ) (deeds : List Deed) (moves : List ReceiveMove) : Type 0 where
  pub numbered : AllByRecursion IsNumbered deeds
  pub noted : map nameless_deed deeds ≡ map nameless_deed (deeds_of s j)
  pub moved : unlooked moves ≡ along (deed_moves peer) (opened s j) deeds

abbrev pub PlacesAreGiven : Type 0
PlacesAreGiven =
    (s : Scenario) (j : DomainJournal) (peer : ℕ) (deeds : List Deed) (moves : List ReceiveMove) → IsLinkedBoard s → IsDomainRun s j.line j.entries
    → DidAsNoted s j peer deeds moves → GivesAt [] (places_given s j peer) moves
