-- The forms of a report's lines beside those of its scenario and its journals: which words and numbers a line has. Which numbers of items,
-- messages and buffers are right hangs on the journals.
-- Source: docs/FORMATS.md, "Report".
use Rattle.std.specs.Prelude.{ℕ, Bool, false, ◌&&◌, List, [], ◌∷◌, codes, bytes_eq, length, nat_le, not, ◌||◌, ◌==◌, ◌%◌, Option, None, Some}
use Rattle.std.specs.List.{list_all}
use Rattle.board_model.specs.FileWords.{number_of, is_within, is_admitted}
use Rattle.board_model.specs.Report.{Mode, serial, threads}
use Rattle.board_model.specs.declared.scenario.LinkLine.{LinkLine}
use Rattle.mc_journal.specs.Readers.{cut_at}

-- a word, a number of a range, or bytes in lower-case hexadecimal, with a dash for none
pub data FormWord : Type 0 where
  word : List ℕ → FormWord
  number : ℕ → ℕ → FormWord
  bytes : FormWord

-- 0 to 9, and a to f
abbrev pub is_small_digit : ℕ → Bool
is_small_digit b = (nat_le 48 b && nat_le b 57) || (nat_le 97 b && nat_le b 102)

abbrev pub spells_bytes : List ℕ → Bool
spells_bytes text = bytes_eq text (codes "-") || (not (length text == 0) && (length text % 2 == 0 && list_all is_small_digit text))

abbrev pub is_form_word : FormWord → List ℕ → Bool
is_form_word (word w) text = bytes_eq w text
is_form_word (number least most) text = is_admitted (is_within least most) (number_of text)
is_form_word bytes text = spells_bytes text

-- what stands before the first blank, and the rest behind it
abbrev pub are_cut : (List ℕ → Bool) → (List ℕ → Bool) → Option (List ℕ × List ℕ) → Bool
are_cut first others None = false
are_cut first others (Some x) = first x.0 && others x.1

-- the words of a form stand in a text, with a blank between two
abbrev pub are_form_words : List FormWord → List ℕ → Bool
are_form_words [] text = false
are_form_words (p ∷ []) text = is_form_word p text
are_form_words (p ∷ q ∷ ps) text = are_cut (is_form_word p) (are_form_words (q ∷ ps)) (cut_at 32 text)

-- and in a line, before its newline
abbrev pub is_line_of : List FormWord → Option (List ℕ × List ℕ) → Bool
is_line_of form None = false
is_line_of form (Some x) = are_form_words form x.0

abbrev pub has_form : List FormWord → List ℕ → Bool
has_form form line = is_line_of form (cut_at 10 line)

-- this number
abbrev pub exactly : ℕ → FormWord
exactly n = number n n

-- the numbers of a u8, a u32 and a u64
abbrev pub small : FormWord
small = number 0 255

abbrev pub count : FormWord
count = number 0 4294967295

abbrev pub long : FormWord
long = number 0 18446744073709551615

-- of a run in this mode
abbrev pub mode_word : Mode → List ℕ
mode_word serial = codes "serial"
mode_word threads = codes "threads"

abbrev pub heading_form : Mode → List FormWord
heading_form mode = word (codes "mcapi-report") ∷ exactly 1 ∷ word (mode_word mode) ∷ []

abbrev pub journal_form : ℕ → List FormWord
journal_form domain = word (codes "journal") ∷ exactly domain ∷ []

abbrev pub totals_form : List FormWord
totals_form = word (codes "accepted") ∷ long ∷ word (codes "taken") ∷ long ∷ word (codes "dropped") ∷ long ∷ word (codes "queued") ∷ long ∷ word (codes "ring") ∷ long ∷ []

abbrev pub channel_form : List FormWord
channel_form = word (codes "channel") ∷ small ∷ count ∷ totals_form

abbrev pub messages_form : List FormWord
messages_form = word (codes "messages") ∷ totals_form

-- the two domains of the line are those of the lane
abbrev pub lane_form : ℕ → ℕ → List FormWord
lane_form sender receiver = word (codes "lane") ∷ exactly sender ∷ exactly receiver ∷ word (codes "free") ∷ count ∷ word (codes "ring") ∷ count ∷ word (codes "queue") ∷ count ∷ word (codes "lent") ∷ count ∷ []

-- the two domains and the queue of the line are those of the ring
abbrev pub ring_form : LinkLine → ℕ → List FormWord
ring_form l queue = word (codes "ring") ∷ exactly l.driver ∷ exactly l.device ∷ exactly queue ∷ bytes ∷ []

abbrev pub ending_form : List FormWord
ending_form = word (codes "end") ∷ []
