-- The law of fragments: no frame is stray, and an open part ends only by becoming whole.
-- Source: docs/PROMISES.md, "Items in parts". This holds of board runs. A domain by itself may be sent anything.
use Rattle.std.specs.Prelude.{◌≡◌, ◌⊎◌, true, List, [], None}
use Rattle.std.specs.List.{AllByRecursion}
use Rattle.mc_base.specs.declared.fate.Fate.TheVariants.{Stray}
use Rattle.board_model.specs.declared.scenario.Scenario.{Scenario}
use Rattle.board_model.specs.LinkedBoard.{IsLinkedBoard}
use Rattle.board_model.specs.State.{DomainState}
use Rattle.board_model.specs.Parts.{part_of, coming_from}
use Rattle.board_model.specs.Deeds.{Deed, takes, after_deeds, EachDeed}
use Rattle.board_model.specs.Board.{DomainJournal, IsBoardRun}
use Rattle.board_model.specs.JournalDeeds.{deeds_of, opened}

-- the frame is not stray, and goes on with the part that is open before it, where there is one. Other deeds leave each open part
abbrev pub KeepsPart : DomainState → List Deed → Deed → Type 0
KeepsPart start before (takes peer name frame word) = (word ≡ Stray → ⊥) × ((part_of (after_deeds start before) peer ≡ None) ⊎ ((coming_from (after_deeds start before) peer frame).joins ≡ true))
KeepsPart start before other = Unit {0}

abbrev pub PartsKept : Scenario → DomainJournal → Type 0
PartsKept s j = EachDeed (KeepsPart (opened s j)) [] (deeds_of s j)

abbrev pub NoPartIsLost : Type 0
NoPartIsLost = (s : Scenario) (js : List DomainJournal) → IsLinkedBoard s → IsBoardRun s js → AllByRecursion (PartsKept s) js
