-- The lines of a journal that were counted, up to some place of its text.
-- Source: docs/FORMATS.md, "Journal text".
use Rattle.std.specs.Prelude.{◌≡◌, ℕ, ◌+◌, ◌<◌, ◌≤◌, ◌^◌, Bool, List, ◌++◌, length, map, sum_by, Option}
use Rattle.board_model.specs.declared.scenario.CallLine.{CallLine}
use Rattle.board_model.specs.Journal.{Line}
use Rattle.board_model.specs.Tallies.{deleted_in, is_delete}
use Rattle.board_numbers.specs.declared.counts.Counts.{Counts}
use Rattle.board_numbers.specs.declared.items.ChannelKey.{ChannelKey}
use Rattle.board_numbers.specs.declared.items.ItemCounts.{ItemCounts}
use Rattle.board_numbers.specs.Counts.{AreCounts}
use Rattle.board_numbers.specs.ItemCounts.{ClosesLast, CountsLines, EachWith}
use Rattle.report_text.specs.CountedLines.{counted_line, lines_counted}

-- the messages that deletes dropped, by whether each line of the script is one
abbrev pub CountsDeleted : List Bool → List Line → ℕ → Type 0
CountsDeleted deletes lines n = (script : List CallLine) → deletes ≡ map (λ c. is_delete c.call) script → sum_by (deleted_in script) lines < 2 ^ 64 → n ≡ sum_by (deleted_in script) lines

-- the counts of a journal's text before this rest of it
pub record HasCounted (own : ℕ) (deletes : List Bool) (text rest : List ℕ) (begun all : List ItemCounts) (counts : Counts) (deleted : ℕ) (closing : Option ChannelKey) : Type 0 where
  pub lines : List Line
  pub told : lines_counted text ≡ map counted_line lines ++ lines_counted rest
  pub few : length lines + length rest ≤ length text
  pub counted : AreCounts counts lines
  pub items : EachWith (CountsLines own lines) begun all
  pub closes : ClosesLast lines closing
  pub dropped : CountsDeleted deletes lines deleted
