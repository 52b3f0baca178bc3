-- What heads a part of a journal, and how many lines the part has, by the outlines of the journal's lines.
-- Source: docs/FORMATS.md, "Journal text". A turn has the lines under it, but for the last puts among them that the call behind them has.
-- Puts that stand first are those of the call behind them.
use Rattle.std.specs.Prelude.{ℕ, ◌+◌, List, length, if◌then◌else◌}
use Rattle.report_text.specs.declared.outline.Outline.{Outline}
use Rattle.report_text.specs.declared.outline.Outline.TheVariants as outline
use Rattle.report_text.specs.TurnOrder.{is_under, under_lines, own_count}
use Rattle.report_text.specs.JournalOrder.{puts_claimed}
use Rattle.report_check.specs.declared.cursor.Head.{Head}
use Rattle.report_check.specs.declared.cursor.Head.TheVariants as head

-- by the first line
abbrev pub head_in : Outline → Head
head_in (outline.Idle n) = head.Idle n
head_in (outline.Spin n word) = head.Spin n
head_in (outline.Again word) = head.Again
head_in outline.Turn = head.Turn
head_in outline.Wait = head.Wait
head_in other = head.Call

-- how many lines, by the first and those behind it, and by how many frames each line of the script puts where it succeeds
abbrev pub part_size : List ℕ → Outline → List Outline → ℕ
part_size puts outline.Turn ls = 1 + own_count (puts_claimed puts ls) (under_lines ls)
part_size puts l ls = if is_under l then 2 + length (under_lines ls) else 1
