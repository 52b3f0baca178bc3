-- Journals: what a domain did, entry by entry, and the lines of a journal as it is written, with idle turns and tries joined.
-- Source: docs/FORMATS.md, "Journal text". A plain turn has for each peer what it did there. The lines leave out looks that showed
-- nothing, and have one line for idle turns in a row, and for tries in a row that each followed one idle turn.
use Rattle.std.specs.Prelude.{ℕ, ◌+◌, ◌-◌, ◌^◌, nat_lt, Bool, false, ◌&&◌, List, [], ◌∷◌, ◌++◌, length, ◌==◌, if◌then◌else◌, map, take, Option, Some, None, slice_get, slice_set}
use Rattle.std.specs.List.{flat_map, list_all}
use Rattle.mc_base.specs.declared.channel.Reason.{Reason}
use Rattle.mc_base.specs.declared.refusal.Refusal.{Refusal}
use Rattle.mc_base.specs.declared.fate.Fate.{Fate}
use Rattle.board_model.specs.Words.{same_word}

-- how a request was completed: with an address; accepted or rejected; with the size of a message or packet and the bytes that were
-- returned; or with a word
pub data PlainResult : Type 0 where
  found_at : ℕ → PlainResult
  was_accepted : PlainResult
  was_rejected : Reason → PlainResult
  brought : ℕ → List ℕ → PlainResult
  ended_by : Refusal → PlainResult

-- the answer of a call: a word of refusal; ok; ok with a number; ok with the numbers of a request and of a channel; ok with a size and
-- the bytes returned; or done, with the place of the request among those named, or none where only one was, and how it was completed
pub data PlainAnswer : Type 0 where
  refuses : Refusal → PlainAnswer
  agrees : PlainAnswer
  tells : ℕ → PlainAnswer
  connects : ℕ → ℕ → PlainAnswer
  gives : ℕ → List ℕ → PlainAnswer
  completes : Option ℕ → PlainResult → PlainAnswer

-- a frame that was taken, with the word for what became of it
pub record Taken : Type 0 where
  pub frame : List ℕ
  pub fate : Fate

abbrev pub taken : List ℕ → Fate → Taken
taken frame fate = record { frame = frame; fate = fate }

-- what a turn did at one peer: buffers that came back, owed frames put, frames that the look showed, frames taken
pub record Visit : Type 0 where
  pub peer : ℕ
  pub back : ℕ
  pub owed : List (List ℕ)
  pub see : ℕ
  pub takes : List Taken

-- an entry of a plain journal: a turn, a frame that a call puts to a peer, a call that answered this word and is made again, a wait
-- that begins, or a call, each of these two with its line's number
pub data PlainEntry : Type 0 where
  turned : List Visit → PlainEntry
  put : ℕ → List ℕ → PlainEntry
  again : Refusal → PlainEntry
  waits : ℕ → PlainEntry
  called : ℕ → PlainAnswer → PlainEntry

-- a line of a written journal
pub data Line : Type 0 where
  idle_line : ℕ → Line
  again_line : Refusal → Line
  spin_line : ℕ → Refusal → Line
  turn_line : Line
  back_line : ℕ → ℕ → Line
  put_line : ℕ → List ℕ → Line
  see_line : ℕ → ℕ → Line
  take_line : ℕ → List ℕ → Fate → Line
  wait_line : ℕ → Line
  call_line : ℕ → PlainAnswer → Line

-- a turn in which nothing was shown, put or taken
abbrev pub is_idle : Visit → Bool
is_idle v = v.back == 0 && (length v.owed == 0 && (v.see == 0 && length v.takes == 0))

-- a line for a look that showed something
abbrev pub looked : (ℕ → Line) → ℕ → List Line
looked line n = if n == 0 then [] else line n ∷ []

abbrev pub taken_line : ℕ → Taken → Line
taken_line peer t = take_line peer t.frame t.fate

-- the lines of a visit, in the order of its parts
abbrev pub visit_lines : Visit → List Line
visit_lines v = looked (back_line v.peer) v.back ++ (map (put_line v.peer) v.owed ++ (looked (see_line v.peer) v.see ++ map (taken_line v.peer) v.takes))

-- the count of an idle line that another idle turn can join. The greatest count of 64 bits is not joined further
abbrev pub joinable : Option Line → Option ℕ
joinable (Some (idle_line n)) = if nat_lt n (2 ^ 64 - 1) then Some n else None
joinable other = None

abbrev pub with_idle : Option ℕ → List Line → List Line
with_idle None lines = lines ++ idle_line 1 ∷ []
with_idle (Some n) lines = slice_set lines (length lines - 1) (idle_line (n + 1))

-- an idle turn joins the idle turns of the line before
abbrev pub noted_idle : List Line → List Line
noted_idle lines = with_idle (joinable (slice_get lines (length lines - 1))) lines

-- the count of a line of tries with this word that another try can join
abbrev pub spinning : Refusal → Option Line → Option ℕ
spinning word (Some (spin_line n w)) = if same_word w word && nat_lt n (2 ^ 64 - 1) then Some n else None
spinning word other = None

abbrev pub with_spin : Refusal → Option ℕ → List Line → List Line
with_spin word None lines = lines ++ spin_line 1 word ∷ []
with_spin word (Some n) lines = slice_set lines (length lines - 1) (spin_line (n + 1) word)

abbrev pub noted_spin : Refusal → List Line → List Line
noted_spin word lines = with_spin word (spinning word (slice_get lines (length lines - 1))) lines

-- a line of one idle turn
abbrev pub is_one_idle : Option Line → Bool
is_one_idle (Some (idle_line n)) = n == 1
is_one_idle other = false

-- a call that is made again after one idle turn replaces that turn's line by one for both
abbrev pub noted_again : Refusal → List Line → List Line
noted_again word lines = if is_one_idle (slice_get lines (length lines - 1)) then noted_spin word (take (length lines - 1) lines) else lines ++ again_line word ∷ []

-- the lines with one entry more
abbrev pub noted : List Line → PlainEntry → List Line
noted lines (turned visits) = if list_all is_idle visits then noted_idle lines else lines ++ turn_line ∷ flat_map visit_lines visits
noted lines (put peer frame) = lines ++ put_line peer frame ∷ []
noted lines (again word) = noted_again word lines
noted lines (waits number) = lines ++ wait_line number ∷ []
noted lines (called number answer) = lines ++ call_line number answer ∷ []

abbrev pub noted_all : List Line → List PlainEntry → List Line
noted_all lines [] = lines
noted_all lines (e ∷ es) = noted_all (noted lines e) es

-- the lines of a plain journal
abbrev pub joined : List PlainEntry → List Line
joined entries = noted_all [] entries
