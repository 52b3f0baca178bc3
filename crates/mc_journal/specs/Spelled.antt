-- Lines whose bytes are still digits, as they stand in a text, and the lines that they are.
-- Source: docs/FORMATS.md, "Journal text".
use Rattle.std.specs.Prelude.{◌≡◌, ℕ, ◌*◌, ◌≤◌, Bool, ◌&&◌, true, List, [], length, nat_le, Option, None, Some, if◌then◌else◌}
use Rattle.std.specs.List.{list_all}
use Rattle.board_model.specs.FileWords.{pairs_of}
use Rattle.mc_journal.specs.declared.entry.Entry.{Entry}
use Rattle.mc_journal.specs.declared.entry.Entry.TheVariants as entry
use Rattle.board_model.specs.Journal.{PlainResult, brought, PlainAnswer, gives, completes, Line, put_line, take_line, call_line}

-- 0 to 9 or a to f
abbrev pub is_lower : ℕ → Bool
is_lower b = if nat_le 48 b && nat_le b 57 then true else nat_le 97 b && nat_le b 102

abbrev pub bytes_or_none : Option (List ℕ) → List ℕ
bytes_or_none None = []
bytes_or_none (Some bs) = bs

-- the bytes that digits spell, none where they spell none
abbrev pub spelled : List ℕ → List ℕ
spelled ds = bytes_or_none (pairs_of ds)

abbrev pub spelled_result : PlainResult → PlainResult
spelled_result (brought size ds) = brought size (spelled ds)
spelled_result other = other

abbrev pub spelled_answer : PlainAnswer → PlainAnswer
spelled_answer (gives size ds) = gives size (spelled ds)
spelled_answer (completes place result) = completes place (spelled_result result)
spelled_answer other = other

-- the line with the bytes that its digits spell
abbrev pub spelled_line : Line → Line
spelled_line (put_line peer ds) = put_line peer (spelled ds)
spelled_line (take_line peer ds fate) = take_line peer (spelled ds) fate
spelled_line (call_line number answer) = call_line number (spelled_answer answer)
spelled_line other = other

-- ---- entries whose frames are still digits

-- digits of lower case, two for each byte that they spell
pub record AreDigits (ds : List ℕ) : Type 0 where
  pub lower : list_all is_lower ds ≡ true
  pub count : length ds ≡ 2 * length (spelled ds)

-- the digits of an entry's frame
abbrev pub frame_digits : Entry → List ℕ
frame_digits (entry.Put peer ds) = ds.now
frame_digits (entry.Take peer ds fate) = ds.now
frame_digits other = []
