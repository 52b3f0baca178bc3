-- The next part of a journal in a text, as it is found from the front: what heads it, and how many lines it has.
-- Source: docs/FORMATS.md, "Journal text".
use Rattle.std.specs.Prelude.{◌≡◌, ℕ, ◌<◌, ◌≤◌, List, [], ◌∷◌, length, map, take, drop, Option, None, Some}
use Rattle.std.specs.List.{flat_map}
use Rattle.mc_base.specs.declared.refusal.Refusal.{Refusal}
use Rattle.board_model.specs.declared.scenario.CallLine.{CallLine}
use Rattle.board_model.specs.Journal.{Line, PlainAnswer}
use Rattle.board_model.specs.JournalParts.{Part, idles, spins, tries, turn_of, wait_of, call_of, part_lines}
use Rattle.board_model.specs.Unjoined.{visit_in}
use Rattle.report_text.specs.JournalRead.{told_texts, lines_of_texts, parts_in}
use Rattle.report_text.specs.TextLines.{lines_in}
use Rattle.report_text.specs.Texts.{lines_behind, longest_line}
use Rattle.report_check.specs.declared.cursor.Head.{Head}
use Rattle.report_check.specs.declared.cursor.Head.TheVariants as head
use Rattle.report_check.specs.declared.cursor.NextPart.{NextPart}

-- ---- the journal that stands first in a text

abbrev pub texts_from : List ℕ → List (List ℕ)
texts_from text = told_texts (lines_in text)

abbrev pub lines_from : List ℕ → List Line
lines_from text = lines_of_texts (texts_from text)

abbrev pub parts_from : List ℕ → List CallLine → List ℕ → List Part
parts_from peers script text = parts_in peers script (lines_from text)

-- a part begins with its first line, and each line is one of a part
abbrev pub BeginsPart : List ℕ → List CallLine → List ℕ → Type 0
BeginsPart peers script text = lines_from text ≡ flat_map part_lines (parts_from peers script text)

-- ---- its first part

-- what heads a part. A turn is told by its lines
abbrev pub Heads : List ℕ → List Line → Head → Part → Type 0
Heads peers lines (head.Idle n) p = p ≡ idles n
Heads peers lines (head.Spin n) p = (word : Refusal) × (p ≡ spins n word)
Heads peers lines head.Again p = (word : Refusal) × (p ≡ tries word)
Heads peers lines head.Turn p = p ≡ turn_of (map (visit_in lines) peers)
Heads peers lines head.Wait p = (k : ℕ) × (p ≡ wait_of k)
Heads peers lines head.Call p = (ps : List (ℕ × List ℕ)) × (k : ℕ) × (a : PlainAnswer) × (p ≡ call_of ps k a)

-- the part is the first, and the next begins behind its lines
pub record IsNextPart (peers : List ℕ) (script : List CallLine) (text : List ℕ) (n : NextPart) : Type 0 where
  pub part : Part
  pub parts : parts_from peers script text ≡ part ∷ parts_from peers script n.behind.text.now
  pub head : Heads peers (lines_of_texts (take n.lines (lines_in text))) n.head part
  pub lines : n.lines ≡ length (part_lines part)
  pub texts : texts_from n.behind.text.now ≡ drop n.lines (texts_from text)
  pub begins : BeginsPart peers script n.behind.text.now
  pub rest : lines_behind n.behind.text.now ≡ lines_behind text
  pub shorter : length n.behind.text.now < length text
  pub fits : longest_line n.behind.text.now ≤ longest_line text

-- a text that begins with no line of a journal has no part
abbrev pub FoundNext : List ℕ → List CallLine → List ℕ → Option NextPart → Type 0
FoundNext peers script text None = texts_from text ≡ []
FoundNext peers script text (Some n) = IsNextPart peers script text n
