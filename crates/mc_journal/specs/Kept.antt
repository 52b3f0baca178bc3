-- What the entries that a journal keeps stand for, over the bytes beside them.
-- Source: the journal's own layout, of which nothing shows outside.
use Rattle.std.specs.Prelude.{ℕ, ◌+◌, ◌≤◌, List, length, take, drop}
use Rattle.std.specs.List.{AllByRecursion}
use Rattle.board_model.specs.Journal.{Line, PlainResult, found_at, was_accepted, was_rejected, brought, ended_by, idle_line, again_line, spin_line, turn_line, back_line, put_line, see_line, take_line, wait_line, call_line, refuses, agrees, tells, connects, gives, completes}
use Rattle.mc_journal.specs.declared.kept.Piece.{Piece}
use Rattle.mc_journal.specs.declared.kept.KeptResult.{KeptResult}
use Rattle.mc_journal.specs.declared.kept.KeptResult.TheVariants as result
use Rattle.mc_journal.specs.declared.kept.Kept.{Kept}
use Rattle.mc_journal.specs.declared.kept.Kept.TheVariants as kept

abbrev pub piece_of : List ℕ → Piece → List ℕ
piece_of bytes p = take p.len (drop p.start bytes)

abbrev pub kept_result : List ℕ → KeptResult → PlainResult
kept_result bytes (result.Address address) = found_at address
kept_result bytes result.Accepted = was_accepted
kept_result bytes (result.Rejected reason) = was_rejected reason
kept_result bytes (result.Bytes size p) = brought size (piece_of bytes p)
kept_result bytes (result.Ended word) = ended_by word

abbrev pub kept_line : List ℕ → Kept → Line
kept_line bytes kept.Turn = turn_line
kept_line bytes (kept.Back peer n) = back_line peer n
kept_line bytes (kept.Put peer p) = put_line peer (piece_of bytes p)
kept_line bytes (kept.See peer n) = see_line peer n
kept_line bytes (kept.Take peer p fate) = take_line peer (piece_of bytes p) fate
kept_line bytes (kept.Idle n) = idle_line n
kept_line bytes (kept.Again word) = again_line word
kept_line bytes (kept.Spin n word) = spin_line n word
kept_line bytes (kept.WaitStart k) = wait_line k
kept_line bytes (kept.Refused k word) = call_line k (refuses word)
kept_line bytes (kept.Agreed k) = call_line k agrees
kept_line bytes (kept.Number k n) = call_line k (tells n)
kept_line bytes (kept.Channel k request channel) = call_line k (connects request channel)
kept_line bytes (kept.Bytes k size p) = call_line k (gives size (piece_of bytes p))
kept_line bytes (kept.Done k place how) = call_line k (completes place (kept_result bytes how))

-- its piece lies within so many bytes
abbrev pub IsResultWithin : ℕ → KeptResult → Type 0
IsResultWithin n (result.Bytes size p) = p.start + p.len ≤ n
IsResultWithin n other = Unit {0}

abbrev pub IsWithin : ℕ → Kept → Type 0
IsWithin n (kept.Put peer p) = p.start + p.len ≤ n
IsWithin n (kept.Take peer p fate) = p.start + p.len ≤ n
IsWithin n (kept.Bytes k size p) = p.start + p.len ≤ n
IsWithin n (kept.Done k place how) = IsResultWithin n how
IsWithin n other = Unit {0}

abbrev pub AreWithin : List ℕ → List Kept → Type 0
AreWithin bytes entries = AllByRecursion (IsWithin (length bytes)) entries
