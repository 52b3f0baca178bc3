-- The line that an entry of the code is, and what noting it does.
-- Source: docs/FORMATS.md, "Journal text".
use Rattle.std.specs.Prelude.{◌≡◌, ℕ, Bool, true, false, Option, Some, List, [], ◌∷◌, ◌++◌, length}
use Rattle.board_model.specs.Journal.{Line, PlainResult, found_at, was_accepted, was_rejected, brought, ended_by, PlainAnswer, idle_line, again_line, spin_line, turn_line, back_line, put_line, see_line, take_line, wait_line, call_line, refuses, agrees, tells, connects, gives, completes, noted_idle, noted_again}
use Rattle.mc_journal.specs.declared.entry.Answer.{Answer}
use Rattle.mc_journal.specs.declared.entry.Answer.TheVariants as answer
use Rattle.mc_journal.specs.declared.entry.Told.{Told}
use Rattle.mc_journal.specs.declared.entry.Told.TheVariants as told
use Rattle.mc_journal.specs.declared.entry.Entry.{Entry}
use Rattle.mc_journal.specs.declared.entry.Entry.TheVariants as entry

abbrev pub result_of_told : Told → PlainResult
result_of_told (told.Address address) = found_at address
result_of_told told.Accepted = was_accepted
result_of_told (told.Rejected reason) = was_rejected reason
result_of_told (told.Bytes size bytes) = brought size bytes.now
result_of_told (told.Ended word) = ended_by word

abbrev pub plain_answer : Answer → PlainAnswer
plain_answer (answer.Refused word) = refuses word
plain_answer answer.Ok = agrees
plain_answer (answer.Number n) = tells n
plain_answer (answer.Channel request channel) = connects request channel
plain_answer (answer.Bytes size bytes) = gives size bytes.now
plain_answer (answer.Done place result) = completes place (result_of_told result)

abbrev pub line_of_entry : Entry → Line
line_of_entry entry.Turn = turn_line
line_of_entry (entry.Back peer n) = back_line peer n
line_of_entry (entry.Put peer frame) = put_line peer frame.now
line_of_entry (entry.See peer n) = see_line peer n
line_of_entry (entry.Take peer frame fate) = take_line peer frame.now fate
line_of_entry (entry.Idle n) = idle_line n
line_of_entry (entry.Again word) = again_line word
line_of_entry (entry.Spin n word) = spin_line n word
line_of_entry (entry.WaitStart k) = wait_line k
line_of_entry (entry.Called k a) = call_line k (plain_answer a)

-- how many bytes an entry carries
abbrev pub bytes_in_told : Told → ℕ
bytes_in_told (told.Bytes size bytes) = length bytes.now
bytes_in_told other = 0

abbrev pub bytes_in_answer : Answer → ℕ
bytes_in_answer (answer.Bytes size bytes) = length bytes.now
bytes_in_answer (answer.Done place result) = bytes_in_told result
bytes_in_answer other = 0

abbrev pub bytes_in : Entry → ℕ
bytes_in (entry.Put peer frame) = length frame.now
bytes_in (entry.Take peer frame fate) = length frame.now
bytes_in (entry.Called k a) = bytes_in_answer a
bytes_in other = 0

-- idle turns and calls that are made again are noted one by one
abbrev pub IsNotable : Entry → Type 0
IsNotable (entry.Idle n) = n ≡ 1
IsNotable (entry.Spin n word) = ⊥
IsNotable other = Unit {0}

-- the lines with one more; idle turns, and calls that are made again, are joined
abbrev pub noted_entry : List Line → Line → List Line
noted_entry lines (idle_line n) = noted_idle lines
noted_entry lines (again_line word) = noted_again word lines
noted_entry lines line = lines ++ line ∷ []

-- any entry that is not joined
abbrev pub IsPlain : Entry → Type 0
IsPlain (entry.Idle n) = ⊥
IsPlain (entry.Again word) = ⊥
IsPlain other = Unit {0}

-- the last line is one of idle turns
abbrev pub is_idle_last : Option Line → Bool
is_idle_last (Some (idle_line n)) = true
is_idle_last other = false
