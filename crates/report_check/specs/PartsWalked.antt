-- A domain that makes what the parts of its journal tell, one after the other.
-- Source: docs/FORMATS.md, "How a report is checked".
use Rattle.std.specs.Prelude.{◌≡◌, ℕ, ◌≤◌, List, length, Option, None, Some}
use Rattle.std.specs.List.{flat_map}
use Rattle.board_model.specs.declared.scenario.CallLine.{CallLine}
use Rattle.board_model.specs.declared.scenario.Scenario.{Scenario}
use Rattle.board_model.specs.Journal.{PlainEntry}
use Rattle.board_model.specs.JournalParts.{Part, turn_of, part_entries}
use Rattle.board_model.specs.Language.{IsLawfulBoard}
use Rattle.board_model.specs.Run.{start, after_all}
use Rattle.board_model.specs.Scenario.{script as script_in}
use Rattle.board_model.specs.State.{DomainState}
use Rattle.board_model.specs.Step.{RunState}
use Rattle.board_model.specs.Unjoined.{peers_of}
use Rattle.report_text.specs.JournalRead.{JournalText}
use Rattle.report_text.specs.StepPass.{due_visits, step_place}
use Rattle.report_text.specs.TextLines.{lines_in}
use Rattle.report_text.specs.Texts.{lines_behind}
use Rattle.report_check.specs.declared.cursor.Head.{Head}
use Rattle.report_check.specs.declared.cursor.Head.TheVariants as head
use Rattle.report_check.specs.declared.part_walk.PartsWalked.{PartsWalked}
use Rattle.report_check.specs.declared.part_walk.PartsWalked.TheVariants as walked
use Rattle.report_check.specs.declared.run.Run.{Run}
use Rattle.report_check.specs.NextParts.{parts_from, texts_from}
use Rattle.report_check.specs.Runs.{Makes, script_of}
use Rattle.report_check.specs.Walked.{IsInOrder}

-- ---- one part

-- a part stands for one turn or try at least
abbrev pub IsSomeHead : Head → Type 0
IsSomeHead (head.Idle n) = 1 ≤ n
IsSomeHead (head.Spin n) = 1 ≤ n
IsSomeHead other = Unit {0}

-- a turn as it is due, where its lanes show what is told
abbrev pub due_part : DomainState → Part → Part
due_part s (turn_of vs) = turn_of (due_visits s vs)
due_part s p = p

-- ---- all parts

-- where a domain begins, and the parts of its journal
pub record Way : Type 0 where
  pub first : RunState
  pub parts : List Part

-- a lawful board's domain, whose journal stands first in a text. The first pass finds no line of it wrong
pub record IsBegun (peers : List ℕ) (script : List CallLine) (text : List ℕ) (way : Way) : Type 0 where
  pub board : Scenario
  pub journal : JournalText
  pub lawful : IsLawfulBoard board
  pub order : IsInOrder board journal
  pub numbers : peers ≡ peers_of board journal.line
  pub lines : script ≡ script_in board journal.line.domain
  pub texts : texts_from text ≡ journal.texts
  pub begins : way.first ≡ start board journal.line
  pub parts : way.parts ≡ parts_from peers script text

-- the first wrong line of the way, and the state that it ends in
abbrev pub wrong_on : List ℕ → List CallLine → Way → List ℕ → Option ℕ
wrong_on peers script way text = step_place script peers way.first way.parts (texts_from text)

abbrev pub entries_of : List ℕ → Way → List PlainEntry
entries_of peers way = flat_map (part_entries peers) way.parts

abbrev pub end_of : List ℕ → List CallLine → Way → RunState
end_of peers script way = after_all script way.first (entries_of peers way)

-- what is found of the parts: that none of their lines is wrong, with what stands behind them, or the first wrong line
abbrev pub IsPartsWalked : List ℕ → Way → List ℕ → Run → Run → PartsWalked → Type 0
IsPartsWalked peers way text old new (walked.Right lines behind) = (wrong_on peers (script_of old) way text ≡ None) × (lines ≡ length (texts_from text)) × (lines_in behind.now ≡ lines_behind text) × Makes (script_of old) way.first (entries_of peers way) old new
IsPartsWalked peers way text old new (walked.Wrong place) = wrong_on peers (script_of old) way text ≡ Some place

-- a text has no fewer bytes than the lines that are counted
abbrev pub IsWithin : List ℕ → PartsWalked → Type 0
IsWithin text (walked.Right lines behind) = lines ≤ length text
IsWithin text (walked.Wrong place) = place ≤ length text
