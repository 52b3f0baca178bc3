-- The journal of a run and its deeds tell the same: each deed is one that its state allows, the deeds leave the state that the run leaves, but for
-- the names of frames, and as many buffers are given back to each peer. So what is said of deeds is said of the run.
-- Source: docs/PROFILE.md, "Runs" and "Lanes".
use Rattle.std.specs.Prelude.{◌≡◌, ℕ, length}
use Rattle.board_model.specs.declared.scenario.Scenario.{Scenario}
use Rattle.board_model.specs.LinkedBoard.{IsLinkedBoard}
use Rattle.board_model.specs.Scenario.{script}
use Rattle.board_model.specs.Unnamed.{unnamed}
use Rattle.board_model.specs.Run.{start, left_by, IsDomainRun}
use Rattle.board_model.specs.Board.{DomainJournal}
use Rattle.board_model.specs.Deeds.{AllMayDo}
use Rattle.board_model.specs.Traffic.{given}
use Rattle.board_model.specs.JournalDeeds.{deeds_of, opened, left_in}
use Rattle.board_model.specs.Given.{places_given}

pub record TellsDeeds (s : Scenario) (j : DomainJournal) : Type 0 where
  pub allowed : AllMayDo (opened s j) (deeds_of s j)
  pub left : (left_by s j.line j.entries).state ≡ unnamed (left_in s j)
  pub given_back : (peer : ℕ) → length (places_given s j peer) ≡ given (script s j.line.domain) (start s j.line) peer j.entries

abbrev pub JournalsTellDeeds : Type 0
JournalsTellDeeds = (s : Scenario) (j : DomainJournal) → IsLinkedBoard s → IsDomainRun s j.line j.entries → TellsDeeds s j
