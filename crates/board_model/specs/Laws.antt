-- Laws: what holds of every run of a board, and what is proved of the definitions as a whole.
-- Source: docs/PROFILE.md, "Laws". The functions of `laws` have no code; their contracts are these laws.
use Rattle.std.specs.Prelude.{List}
use Rattle.std.specs.List.{AllByRecursion}
use Rattle.board_model.specs.declared.scenario.Scenario.{Scenario}
use Rattle.board_model.specs.Scenario.{lanes}
use Rattle.board_model.specs.LinkedBoard.{IsLinkedBoard}
use Rattle.board_model.specs.Board.{DomainJournal, IsBoardRun}
use Rattle.board_model.specs.Places.{EveryBuffer}
use Rattle.board_model.specs.Headline.{Headline}

-- at the end of every run of a board of linked domains, the buffers of each lane that are free, in the ring, queued and lent are as many
-- as it has
abbrev pub PlaceLaw : Type 0
PlaceLaw = (s : Scenario) (js : List DomainJournal) → IsLinkedBoard s → IsBoardRun s js → AllByRecursion (EveryBuffer s js) (lanes s)

-- the headline holds of every run of a board of linked domains
abbrev pub HeadlineLaw : Type 0
HeadlineLaw = (s : Scenario) (js : List DomainJournal) → IsLinkedBoard s → IsBoardRun s js → Headline s js
