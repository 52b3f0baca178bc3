-- Where the lines of a journal are none that the entries of a journal could have, whatever the domain's state: the first line that no
-- journal has at its place.
-- Source: docs/FORMATS.md, "Journal text". The put lines directly before a call that succeeds in putting frames are the call's, as many as
-- it puts. Idle turns in a row are one line, and so are tries in a row.
use Rattle.std.specs.Prelude.{ℕ, ◌-◌, ◌^◌, Bool, true, false, not, ◌&&◌, ◌==◌, List, [], ◌∷◌, nat_le, nat_lt, slice_get, unwrap_or, Option, None, Some, if◌then◌else◌}
use Rattle.mc_base.specs.declared.refusal.Refusal.{Refusal}
use Rattle.board_model.specs.Words.{same_word}
use Rattle.report_text.specs.declared.outline.Outline.{Outline}
use Rattle.report_text.specs.declared.outline.Outline.TheVariants.{Turn, Idle, Again, Spin, Call}
use Rattle.report_text.specs.TextLines.{moved, or_else}
use Rattle.report_text.specs.TurnOrder.{is_under, under_lines, under_place}

-- how many of the put lines before a call are the call's, by how many frames each line of the script puts where it succeeds: none where it was
-- refused, and none of a line that the script has not
abbrev pub puts_numbered : List ℕ → ℕ → ℕ
puts_numbered puts k = if k == 0 then 0 else unwrap_or (slice_get puts (k - 1)) 0

abbrev pub puts_of_line : List ℕ → Outline → ℕ
puts_of_line puts (Call k refused) = if refused then 0 else puts_numbered puts k
puts_of_line puts other = 0

-- of a line that stands behind others, where there is one
abbrev pub puts_of_head : List ℕ → Option Outline → ℕ
puts_of_head puts None = 0
puts_of_head puts (Some l) = puts_of_line puts l

-- of the first line that stands under none
abbrev pub puts_claimed : List ℕ → List Outline → ℕ
puts_claimed puts [] = 0
puts_claimed puts (l ∷ ls) = if is_under l then puts_claimed puts ls else puts_of_line puts l

abbrev pub is_turn : Outline → Bool
is_turn Turn = true
is_turn other = false

-- ---- lines that are joined

-- the count of idle turns or tries in a row
abbrev pub is_count : ℕ → Bool
is_count n = nat_le 1 n && nat_le n (2 ^ 64 - 1)

-- one more idle turn, or one more try with this word, would have been told in this line. The greatest count is not joined further
abbrev pub joins_idle : Option Outline → Bool
joins_idle (Some (Idle n)) = nat_lt n (2 ^ 64 - 1)
joins_idle other = false

abbrev pub joins_spin : Refusal → Option Outline → Bool
joins_spin word (Some (Spin n w)) = same_word w word && nat_lt n (2 ^ 64 - 1)
joins_spin word other = false

abbrev pub is_one_idle : Option Outline → Bool
is_one_idle (Some (Idle n)) = n == 1
is_one_idle other = false

-- a line behind the last one, with which it is not joined
abbrev pub stands : Option Outline → Outline → Bool
stands last (Idle n) = is_count n && not (joins_idle last)
stands last (Spin n word) = is_count n && (not (joins_idle last) && not (joins_spin word last))
stands last (Again word) = not (is_one_idle last)
stands last other = true

-- ---- all lines

-- a line that stands under none, and the lines under it
abbrev pub head_place : List ℕ → List ℕ → Option Outline → Outline → List Outline → Option ℕ
head_place peers puts last l ls = if stands last l then moved 1 (under_place peers (is_turn l) (puts_claimed puts ls) (under_lines ls)) else Some 0

abbrev pub place_from : List ℕ → List ℕ → Option Outline → List Outline → Option ℕ
place_from peers puts last [] = None
place_from peers puts last (l ∷ ls) = if is_under l then moved 1 (place_from peers puts (Some l) ls) else or_else (head_place peers puts last l ls) (moved 1 (place_from peers puts (Some l) ls))

-- behind a turn or another line
abbrev pub place_behind : List ℕ → List ℕ → Bool → Option Outline → List Outline → Option ℕ
place_behind peers puts turn last ls = or_else (under_place peers turn (puts_claimed puts ls) (under_lines ls)) (place_from peers puts last ls)

-- the lines of a journal. Those before the first that stands under none are of no turn
abbrev pub journal_place : List ℕ → List ℕ → List Outline → Option ℕ
journal_place peers puts ls = place_behind peers puts false None ls
